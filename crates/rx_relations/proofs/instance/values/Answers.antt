-- What is formed within limits, as an option; it describes the places.
use Rattle.std.proofs.Common.{ℕ, ℤ}
use Rattle.rx_row.specs.Holds.{AllHold}
use Rattle.rx_relations.specs.Holding.{Describes}
use Rattle.rx_relations.specs.Values.{values_formed}
use Rattle.rx_relations.specs.declared.instance.Instance.{Instance}
use Rattle.rx_relations.proofs.Applied.{applied, holds_within}
use Rattle.rx_relations.proofs.ValuesLaws.{described}
use Rattle.rx_relations.proofs.instance.values.Goals as goal

pub returns-clause-exact : goal.returns-clause-exact
returns-clause-exact c =
    applied (values_formed c.args.rows.now c.args.places.now) c.formed_values.result
    c.form_within.result c.formed_values.ensures c.form_within.ensures

pub returns-clause-describes : goal.returns-clause-describes
returns-clause-describes c =
    holds_within (values_formed c.args.rows.now c.args.places.now) c.form_within.result
    (λ (goal : Instance). (a : ℕ → ℤ) → AllHold a c.args.rows.now → Describes a c.args.places.now goal)
    (λ a h. described a c.args.rows.now c.args.places.now h)
    (applied (values_formed c.args.rows.now c.args.places.now) c.formed_values.result
    c.form_within.result c.formed_values.ensures c.form_within.ensures)
