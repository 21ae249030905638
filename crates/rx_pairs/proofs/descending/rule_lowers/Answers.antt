-- The pairs of the root and the parts are those of the rule.
use Rattle.std.proofs.Common.{◌≡◌, ◌∙◌, ◌++◌, ap, map, subst, sym, List}
use Rattle.rx_plain.specs.Formed.{Formed}
use Rattle.rx_term.specs.Domains.{rows_at}
use Rattle.rx_pairs.specs.Descents.{Leaves, lent_listing}
use Rattle.rx_pairs.specs.Inside.{pairs_in}
use Rattle.rx_pairs.specs.Lent.{all_lent, lent}
use Rattle.rx_pairs.specs.Lowering.{Descent}
use Rattle.rx_pairs.specs.Pairs.{pair_under}
use Rattle.rx_pairs.specs.declared.pair.Pair.{Pair}
use Rattle.rx_pairs.proofs.DescendingLaws.{rule_beyond, rule_formed, rule_without}
use Rattle.rx_pairs.proofs.InsideLaws.{nothing_in, some_in}
use Rattle.rx_pairs.proofs.PartsLaws.{no_lents, some_lents}
use Rattle.rx_pairs.proofs.descending.rule_lowers.Goals as goal

pub returns-then-is_empty-clause-decides : goal.returns-then-is_empty-clause-decides
returns-then-is_empty-clause-decides c = λ rest.
    rule_without c.args.rules.now c.args.witness c.args.rule.now rest c.args.number
    (nothing_in c.args.rules.now c.args.rule.now (lent c.in-Some.root) c.in-Some.ensures
    (all_lent c.in_ok-made.made.items) c.in_ok-made.ensures
    (no_lents c.in_ok-made.made.items c.as_slice-parts.result.now c.as_slice-parts.ensures.value
    (sym c.is_empty.ensures ∙ c.if-is_empty.true)))

pub returns-in-Ok-clause-decides : goal.returns-in-Ok-clause-decides
returns-in-Ok-clause-decides c = λ rest.
    let root = lent c.in-Some.root in
    let parts = all_lent c.in_ok-made.made.items in
    let formed = some_in c.args.rules.now c.args.rule.now root c.in-Some.ensures parts
    c.in_ok-made.ensures
    (some_lents c.in_ok-made.made.items c.as_slice-parts.result.now c.as_slice-parts.ensures.value
    (sym c.is_empty.ensures ∙ c.if-is_empty.false)) in
    let rows : c.in-Ok.rows ≡ c.args.rule.now.rows ++
    (rows_at c.args.rules.now root.symbol.0 root.arguments).form = c.in-Ok.ensures.0 in
    let form : (pairs_in c.args.rules.now c.args.rule.now).form ≡
    map (pair_under c.in-Ok.rows root) (all_lent c.as_slice-parts.result.now) =
    ap (λ (f : Formed (List Pair)). f.form) formed
    ∙ (λ i. map (pair_under (sym rows i) root)
    (all_lent (sym c.as_slice-parts.ensures.value i))) in
    let first = rule_formed c.args.rules.now c.args.witness c.args.rule.now rest c.args.number
    (map (pair_under c.in-Ok.rows root) (all_lent c.as_slice-parts.result.now)) form
    (ap (λ (f : Formed (List Pair)). f.within) formed ∙ c.in-Ok.ensures.1) in
    subst (λ (d : Descent). Leaves (lent_listing c.args.witness rest) d c.parts_lower.result)
    (sym first) (c.parts_lower.ensures.decides rest.whole rest.pairs)

pub returns-in-Err-Large-clause-decides : goal.returns-in-Err-Large-clause-decides
returns-in-Err-Large-clause-decides c = λ rest.
    let root = lent c.in-Some.root in
    let formed = some_in c.args.rules.now c.args.rule.now root c.in-Some.ensures
    (all_lent c.in_ok-made.made.items) c.in_ok-made.ensures
    (some_lents c.in_ok-made.made.items c.as_slice-parts.result.now c.as_slice-parts.ensures.value
    (sym c.is_empty.ensures ∙ c.if-is_empty.false)) in
    rule_beyond c.args.rules.now c.args.witness c.args.rule.now rest c.args.number
    (ap (λ (f : Formed (List Pair)). f.within) formed ∙
    c.in-Err-Large.ensures c.in-Err-Large.field-0-is)
