-- The links of one more pair.
use Rattle.std.proofs.Common.{List, arith, length, subst, take, take_all}
use Rattle.std.specs.List.{flat_map}
use Rattle.std.proofs.lemmas.List.{length-map}
use Rattle.rx_graph.proofs.RowLaws.{closed_graph}
use Rattle.rx_graph.specs.Graph.{IsGraphOf, rows_of}
use Rattle.rx_pairs.proofs.EdgeLaws.{pair_over}
use Rattle.rx_pairs.specs.declared.pair.Pair.{Pair}
use Rattle.rx_find_domains.specs.Groups.{links}
use Rattle.rx_find_domains.proofs.GroupLaws.{all_over, links_more}
use Rattle.rx_find_domains.proofs.groups.link_graph.Goals as goal

pub add_links-requires : goal.add_links-requires
add_links-requires c =
    let h = pair_over (length c.args.symbols.now) c.args.pairs.now c.loop-pair.pair-index
    c.pair-item.result c.loop-pair-test.true c.pair-item.is c.requires in
    let count = length-map c.loop-pair.graph.rows.items (λ row. row.items) in
    let same = c.loop-pair.invariant.count in
    record { left = omega (arith, h, count, same); right = omega (arith, h, count, same) }

pub loop-pair-preserved : goal.loop-pair-preserved
loop-pair-preserved c =
    let n = length c.args.symbols.now in
    let infos = c.args.symbols.now in
    let pairs = c.args.pairs.now in
    let i = c.loop-pair.pair-index in
    subst (λ es. IsGraphOf n es (rows_of c.add_links.new.graph.rows.items))
    (links_more n infos pairs i c.pair-item.result c.loop-pair-test.true c.pair-item.is)
    (c.in_ok-add_links.ensures n (flat_map (links infos) (take i pairs)) c.loop-pair.invariant)

pub returns-clause-closed : goal.returns-clause-closed
returns-clause-closed c =
    let n = length c.args.symbols.now in
    let infos = c.args.symbols.now in
    let pairs = c.args.pairs.now in
    let all = take_all c.loop-pair.pair-index pairs c.loop-pair-test.false in
    closed_graph n (flat_map (links infos) pairs) (rows_of c.loop-pair.graph.rows.items)
    (all_over n infos pairs c.requires)
    (subst (λ (ps : List Pair). IsGraphOf n (flat_map (links infos) ps)
    (rows_of c.loop-pair.graph.rows.items)) all c.loop-pair.invariant)
