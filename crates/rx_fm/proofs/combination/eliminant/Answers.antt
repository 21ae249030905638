-- The weights that are computed are the least ones.
use Rattle.std.proofs.Common.{rules, ◌∙◌, subst, FitsSigned}
use Rattle.std.specs.Int.{w128}
use Rattle.std.proofs.lemmas.Int.{to_z-of_z}
use Rattle.rx_plain.specs.Formed.{Formed, Forms}
use Rattle.rx_fm.specs.Elimination.{linear_combination_formed}
use Rattle.rx_fm.specs.declared.combination.Combination.{Combination}
use Rattle.rx_fm.specs.declared.fm_end.FmEnd.TheVariants.{Large}
use Rattle.rx_fm.proofs.Exact.{cofactor}
use Rattle.rx_fm.proofs.combination.eliminant.Goals as goal

pub returns : goal.returns
returns c =
    let g : FitsSigned w128 c.gcd-common.result = search rules in
    let k : FitsSigned w128 c.divided-k.result = search rules in
    let l : FitsSigned w128 c.divided-l.result = search rules in
    let common = to_z-of_z w128 c.gcd-common.result g ∙ c.gcd-common.ensures in
    let first = to_z-of_z w128 c.divided-k.result k ∙ c.divided-k.ensures ∙
    cofactor c.args.positive.now c.args.negative.now c.args.negative.now c.requires.positive
    c.requires.negative common in
    let second = to_z-of_z w128 c.divided-l.result l ∙ c.divided-l.ensures ∙
    cofactor c.args.positive.now c.args.negative.now c.args.positive.now c.requires.positive
    c.requires.positive common in
    subst (λ (f : Formed Combination). Forms Large c.linear_combination.result f)
    (λ i. linear_combination_formed (first i) c.args.first.now (second i) c.args.second.now)
    c.linear_combination.ensures
