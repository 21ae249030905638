-- The rules have roots, their pairs are of their symbols, and the labels are the names.
use Rattle.std.proofs.Common.{List, ◌∙◌, ap, arith, length, subst, sym}
use Rattle.std.specs.Prelude.{All}
use Rattle.rx_pairs.proofs.PairsLaws.{made_roots}
use Rattle.rx_pairs.specs.Pairs.{HasRoot}
use Rattle.std.specs.List.{flat_map}
use Rattle.rx_term.specs.declared.rule.Rule.{Rule}
use Rattle.rx_find_domains.specs.Groups.{links}
use Rattle.rx_find_domains.proofs.GroupLaws.{names_are, over_here, rows_count, rule_pairs}
use Rattle.rx_find_domains.proofs.groups.find_groups.Goals as goal

pub all_pairs-requires-clause-rules : goal.all_pairs-requires-clause-rules
all_pairs-requires-clause-rules c =
    subst (λ (rules : List Rule). All HasRoot rules) (sym c.as_slice-rules.ensures)
    (made_roots c.args.parts.now c.args.parts.now.rules c.requires.made)

pub link_graph-requires : goal.link_graph-requires
link_graph-requires c =
    over_here c.args.parts.now c.requires.made c.as_slice-symbols.result.now c.as_slice.result.now
    c.as_slice-symbols.ensures
    (c.as_slice.ensures.value ∙ rule_pairs c.args.parts.now c.as_slice-rules.result.now
    c.in_ok-pairs.pairs.items c.as_slice-rules.ensures c.in_ok-pairs.ensures)

pub components-requires : goal.components-requires
components-requires c =
    let infos = c.as_slice-symbols.result.now in
    let count = rows_count (length infos) (flat_map (links infos) c.as_slice.result.now)
    c.in_ok-graph.graph.rows.items c.in_ok-graph.ensures.edges in
    let size = ap length c.as_slice-symbols.ensures in
    let few = c.requires.few in
    record { closed = c.in_ok-graph.ensures.closed; few = omega (arith, count, size, few) }

pub returns : goal.returns
returns c =
    names_are c.args.parts.now c.requires.made c.as_slice-symbols.result.now
    c.as_slice.result.now c.as_slice-symbols.ensures
    (c.as_slice.ensures.value ∙ rule_pairs c.args.parts.now c.as_slice-rules.result.now
    c.in_ok-pairs.pairs.items c.as_slice-rules.ensures c.in_ok-pairs.ensures)
    c.in_ok-graph.graph.rows.items c.in_ok-graph.ensures.edges c.in_ok-names.names.items
    c.in_ok-names.ensures.count c.in_ok-names.ensures.least
