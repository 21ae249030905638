-- The graph of the pairs of the rules, its loop points and its components.
use Rattle.std.proofs.Common.{◌∙◌, List, ap, arith, length, subst, sym}
use Rattle.std.specs.Prelude.{All}
use Rattle.rx_term.specs.declared.rule.Rule.{Rule}
use Rattle.rx_pairs.specs.Listed.{pairs_by_all}
use Rattle.rx_pairs.specs.Pairs.{HasRoot}
use Rattle.rx_pairs.proofs.LoopLaws.{loops_made, pairs_over, rows_count}
use Rattle.rx_pairs.proofs.PairsLaws.{made_roots}
use Rattle.rx_pairs.proofs.loops.loops_of.Goals as goal

pub rule_pairs-requires : goal.rule_pairs-requires
rule_pairs-requires c =
    subst (λ (rules : List Rule). All HasRoot rules) (sym c.as_slice.ensures)
    (made_roots c.args.parts.now c.args.parts.now.rules c.requires.made)

pub graph_of-requires : goal.graph_of-requires
graph_of-requires c =
    pairs_over c.args.parts.now c.requires.made c.as_slice-symbols.result.now
    c.as_slice-2.result.now c.as_slice-symbols.ensures
    (c.as_slice-2.ensures.value ∙ c.in_ok-pairs.ensures ∙ ap pairs_by_all c.as_slice.ensures)

pub points_of-requires : goal.points_of-requires
points_of-requires c =
    let same = rows_count c.args.parts.now c.requires.made c.as_slice-symbols.result.now
    c.as_slice-2.result.now c.as_slice-symbols.ensures
    (c.as_slice-2.ensures.value ∙ c.in_ok-pairs.ensures ∙ ap pairs_by_all c.as_slice.ensures)
    c.in_ok-graph.graph.rows.items c.in_ok-graph.ensures.edges in
    let size = ap length c.as_slice-symbols.ensures in
    let few = c.requires.few in
    record { closed = c.in_ok-graph.ensures.closed; all = sym same; few = omega (arith, size, few) }

pub components-requires : goal.components-requires
components-requires c =
    let same = rows_count c.args.parts.now c.requires.made c.as_slice-symbols.result.now
    c.as_slice-2.result.now c.as_slice-symbols.ensures
    (c.as_slice-2.ensures.value ∙ c.in_ok-pairs.ensures ∙ ap pairs_by_all c.as_slice.ensures)
    c.in_ok-graph.graph.rows.items c.in_ok-graph.ensures.edges in
    let size = ap length c.as_slice-symbols.ensures in
    let few = c.requires.few in
    record { closed = c.in_ok-graph.ensures.closed; few = omega (arith, same, size, few) }

pub returns : goal.returns
returns c =
    loops_made c.args.parts.now c.requires.made c.as_slice-symbols.result.now
    c.as_slice-2.result.now c.as_slice-symbols.ensures
    (c.as_slice-2.ensures.value ∙ c.in_ok-pairs.ensures ∙ ap pairs_by_all c.as_slice.ensures)
    c.in_ok-graph.graph.rows.items c.in_ok-graph.ensures.edges
    (record { points = c.in_ok-points.points; components = c.in_ok-components.components })
    c.in_ok-points.ensures.count c.in_ok-points.ensures.points c.in_ok-components.ensures.count
    c.in_ok-components.ensures.least
