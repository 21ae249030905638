-- The root and the parts make the pairs.
use Rattle.std.proofs.Common.{◌≡◌, ◌∙◌, ap, subst, sym, map}
use Rattle.std.proofs.lemmas.Result.{IfOk-weaker}
use Rattle.rx_pairs.specs.Lent.{all_lent, lent}
use Rattle.rx_pairs.specs.Pairs.{ArePairs, PairsOf, pair_of}
use Rattle.rx_pairs.proofs.pairs.pairs_of.Goals as goal

pub returns : goal.returns
returns c =
    let rule = c.args.rule.now in
    let root = lent c.in-Some.root in
    let parts = all_lent c.in_ok-parts.parts.items in
    IfOk-weaker c.pairs_with.result (λ pairs. pairs.items ≡
    map (pair_of rule root) (all_lent c.as_slice.result.now))
    (λ pairs. ArePairs rule pairs.items)
    (λ pairs same.
    subst (ArePairs rule) (ap (λ lents. map (pair_of rule root) (all_lent lents))
    (sym c.as_slice.ensures.value) ∙ sym same)
    (PairsOf root c.in-Some.ensures parts c.in_ok-parts.ensures))
    c.pairs_with.ensures
