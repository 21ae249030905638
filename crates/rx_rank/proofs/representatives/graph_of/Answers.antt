-- One more edge.
use Rattle.std.proofs.Common.{List, arith, subst, take_all}
use Rattle.std.proofs.lemmas.List.{length-map}
use Rattle.rx_graph.proofs.RowLaws.{closed_graph}
use Rattle.rx_graph.specs.Graph.{IsGraphOf, rows_of}
use Rattle.rx_pairs.proofs.EdgeLaws.{edge_more, pair_over}
use Rattle.rx_pairs.specs.Graph.{edges_of}
use Rattle.rx_pairs.specs.declared.pair.Pair.{Pair}
use Rattle.rx_rank.specs.Answers.{pairs_at}
use Rattle.rx_rank.proofs.LentPairs.{lent_count, lent_pair}
use Rattle.rx_rank.proofs.representatives.graph_of.Goals as goal

pub add-requires : goal.add-requires
add-requires c =
    let refs = c.args.pairs.now in
    let at = c.loop-pair.pair-index in
    let pair = c.pair-item.result in
    let many = lent_count refs in
    let inner = c.loop-pair-test.true in
    let h = pair_over c.args.symbols (pairs_at refs) at pair.now (omega (arith, many, inner))
    (lent_pair refs at pair c.loop-pair-test.true c.pair-item.is) c.requires in
    let count = length-map c.loop-pair.graph.rows.items (λ row. row.items) in
    let same = c.loop-pair.invariant.count in
    record { from = omega (arith, h, count, same); to = omega (arith, h, count, same) }

pub loop-pair-preserved : goal.loop-pair-preserved
loop-pair-preserved c =
    let refs = c.args.pairs.now in
    let at = c.loop-pair.pair-index in
    let pair = c.pair-item.result in
    let many = lent_count refs in
    let inner = c.loop-pair-test.true in
    subst (λ es. IsGraphOf c.args.symbols es (rows_of c.add.new.self.rows.items))
    (edge_more (pairs_at refs) at pair.now (omega (arith, many, inner))
    (lent_pair refs at pair c.loop-pair-test.true c.pair-item.is))
    (c.in_ok-add.ensures.edge c.args.symbols _ c.loop-pair.invariant)

pub returns-clause-edges : goal.returns-clause-edges
returns-clause-edges c =
    let pairs = pairs_at c.args.pairs.now in
    let many = lent_count c.args.pairs.now in
    let past = c.loop-pair-test.false in
    let all = take_all c.loop-pair.pair-index pairs (omega (arith, many, past)) in
    subst (λ (ps : List Pair). IsGraphOf c.args.symbols (edges_of ps)
    (rows_of c.loop-pair.graph.rows.items)) all c.loop-pair.invariant

pub returns-clause-closed : goal.returns-clause-closed
returns-clause-closed c =
    let pairs = pairs_at c.args.pairs.now in
    let many = lent_count c.args.pairs.now in
    let past = c.loop-pair-test.false in
    let all = take_all c.loop-pair.pair-index pairs (omega (arith, many, past)) in
    closed_graph c.args.symbols (edges_of pairs) (rows_of c.loop-pair.graph.rows.items) c.requires
    (subst (λ (ps : List Pair). IsGraphOf c.args.symbols (edges_of ps)
    (rows_of c.loop-pair.graph.rows.items)) all c.loop-pair.invariant)
