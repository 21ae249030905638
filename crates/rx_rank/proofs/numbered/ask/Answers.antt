-- What is found of the pair with these polynomials is what is said of them.
use Rattle.std.proofs.Common.{◌≡◌, ◌∙◌, ap, sym, subst, arith, ◌<◌, IfOk, Some, length, slice_get}
use Rattle.std.proofs.lemmas.Bool.Decides.{nat_tests}
use Rattle.std.proofs.lemmas.Option.{slice_get-get_or}
use Rattle.rx_rank.specs.Answers.{found}
use Rattle.rx_rank.specs.Numbers.{holds_at}
use Rattle.rx_rank.proofs.numbered.ask.Goals as goal

pub returns-clause-found : goal.returns-clause-found
returns-clause-found g c =
    let pairs = c.args.pairs.now in
    let polys = c.args.polys.now in
    let d = c.index-pairs-at.result in
    let within : c.args.at < length pairs = omega (arith, c.if-at-pairs.false) in
    let there = slice_get-get_or pairs c.args.at d within in
    let p = c.in-Some.first.now in
    let q = c.in-Some-get.second.now in
    let l = c.in-Some.ensures.lookup in
    let r = c.in-Some-get.ensures.lookup in
    let left : slice_get polys c.args.left ≡ Some p =
    slice_get-get_or polys c.args.left p (grind (arith, nat_tests, l.0)) ∙ ap Some (sym l.1) in
    let right : slice_get polys c.args.right ≡ Some q =
    slice_get-get_or polys c.args.right q (grind (arith, nat_tests, r.0)) ∙ ap Some (sym r.1) in
    subst (λ s. IfOk c.is_held.result (λ f. found f ≡ s))
    (λ j. holds_at (sym there j) (sym left j) (sym right j)) c.is_held.ensures.found
