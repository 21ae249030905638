-- What is formed within limits, as an option; the relations hold at each goal.
use Rattle.std.proofs.Common.{List}
use Rattle.std.specs.Prelude.{All}
use Rattle.rx_row.specs.declared.row.Row.{Row}
use Rattle.rx_relations.specs.Holding.{HoldAt}
use Rattle.rx_relations.specs.Relations.{relations_formed}
use Rattle.rx_relations.proofs.Applied.{applied, holds_within}
use Rattle.rx_relations.proofs.SolvedLaws.{relations_hold}
use Rattle.rx_relations.proofs.all_relations.relations.Goals as goal

pub returns-clause-exact : goal.returns-clause-exact
returns-clause-exact c =
    applied (relations_formed c.args.count c.args.goals.now) c.formed_relations.result
    c.form_within.result c.formed_relations.ensures c.form_within.ensures

pub returns-clause-hold : goal.returns-clause-hold
returns-clause-hold c =
    holds_within (relations_formed c.args.count c.args.goals.now) c.form_within.result
    (λ (rows : List Row). All (HoldAt rows) c.args.goals.now)
    (relations_hold c.args.count c.args.goals.now)
    (applied (relations_formed c.args.count c.args.goals.now) c.formed_relations.result
    c.form_within.result c.formed_relations.ensures c.form_within.ensures)
