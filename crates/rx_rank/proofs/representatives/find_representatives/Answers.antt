-- They are the labels of its components.
use Rattle.std.proofs.Common.{arith}
use Rattle.rx_rank.specs.Answers.{pairs_at}
use Rattle.rx_rank.proofs.NameLaws.{names_at, rows_by}
use Rattle.rx_rank.proofs.representatives.find_representatives.Goals as goal

pub components-requires : goal.components-requires
components-requires c =
    let size = rows_by c.args.symbols (pairs_at c.args.pairs.now) c.in_ok-graph.graph.rows.items
    c.in_ok-graph.ensures.edges in
    let few = c.requires.few in
    record { closed = c.in_ok-graph.ensures.closed; few = omega (arith, size, few) }

pub returns : goal.returns
returns c =
    names_at c.args.symbols (pairs_at c.args.pairs.now) c.in_ok-graph.graph.rows.items
    c.in_ok-graph.ensures.edges c.requires.over c.in_ok-names.names.items
    c.in_ok-names.ensures.count c.in_ok-names.ensures.least
