-- The root and the parts make the pairs; without parts nothing is formed.
use Rattle.std.proofs.Common.{◌≡◌, ◌∙◌, ◌++◌, ap, sym, map, List, []}
use Rattle.std.proofs.lemmas.Result.{err_from_is_err_and}
use Rattle.rx_plain.specs.Formed.{Formed, pure}
use Rattle.rx_term.specs.Domains.{rows_at}
use Rattle.rx_pairs.specs.Inside.{pairs_in}
use Rattle.rx_pairs.specs.Lent.{all_lent, lent}
use Rattle.rx_pairs.specs.Pairs.{pair_under}
use Rattle.rx_pairs.specs.declared.pair.Pair.{Pair}
use Rattle.rx_pairs.proofs.InsideLaws.{nothing_in, some_in}
use Rattle.rx_pairs.proofs.PartsLaws.{no_lents, some_lents}
use Rattle.rx_pairs.proofs.pairs.pairs_in.Goals as goal

pub returns-then-is_empty : goal.returns-then-is_empty
returns-then-is_empty c =
    let nothing : pairs_in c.args.rules.now c.args.rule.now ≡ pure [] =
    nothing_in c.args.rules.now c.args.rule.now (lent c.in-Some.root) c.in-Some.ensures
    (all_lent c.in-Ok.made.items) c.in-Ok.ensures
    (no_lents c.in-Ok.made.items c.as_slice-parts.result.now c.as_slice-parts.ensures.value
    (sym c.is_empty.ensures ∙ c.if-is_empty.true)) in (
      c.new-then-is_empty.ensures.items ∙ ap (λ (f : Formed (List Pair)). f.form) (sym nothing),
      ap (λ (f : Formed (List Pair)). f.within) nothing,
    )

pub returns-in_err-rows : goal.returns-in_err-rows
returns-in_err-rows c =
    let p = err_from_is_err_and c.from_residual.result c.from_residual.ensures.1 in
    let formed = some_in c.args.rules.now c.args.rule.now (lent c.in-Some.root) c.in-Some.ensures
    (all_lent c.in-Ok.made.items) c.in-Ok.ensures
    (some_lents c.in-Ok.made.items c.as_slice-parts.result.now c.as_slice-parts.ensures.value
    (sym c.is_empty.ensures ∙ c.if-is_empty.false)) in
    rw (p.1, p.2) (λ large. ap (λ (f : Formed (List Pair)). f.within) formed ∙
    c.in_err-rows.ensures large)

pub returns-in-Ok-pairs_with : goal.returns-in-Ok-pairs_with
returns-in-Ok-pairs_with c =
    let root = lent c.in-Some.root in
    let formed = some_in c.args.rules.now c.args.rule.now root c.in-Some.ensures
    (all_lent c.in-Ok.made.items) c.in-Ok.ensures
    (some_lents c.in-Ok.made.items c.as_slice-parts.result.now c.as_slice-parts.ensures.value
    (sym c.is_empty.ensures ∙ c.if-is_empty.false)) in
    let rows : c.in_ok-rows.rows ≡ c.args.rule.now.rows ++
    (rows_at c.args.rules.now root.symbol.0 root.arguments).form = c.in_ok-rows.ensures.0 in (
      c.in-Ok-pairs_with.ensures ∙ (λ i. map (pair_under (rows i) root)
          (all_lent (c.as_slice-parts.ensures.value i))) ∙
          ap (λ (f : Formed (List Pair)). f.form) (sym formed),
      ap (λ (f : Formed (List Pair)). f.within) formed ∙ c.in_ok-rows.ensures.1,
    )
