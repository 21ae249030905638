-- What is taken is that of the pair with the polynomial.
use Rattle.std.proofs.Common.{◌≡◌, ◌∙◌, ap, sym, arith, ◌<◌, Some, length, slice_get}
use Rattle.std.proofs.lemmas.Bool.Decides.{nat_tests}
use Rattle.std.proofs.lemmas.Option.{slice_get-get_or}
use Rattle.rx_rank.specs.Numbers.{taken_at}
use Rattle.rx_rank.proofs.numbered.take_from.Goals as goal

pub returns-clause-tried : goal.returns-clause-tried
returns-clause-tried c =
    let pairs = c.args.pairs.now in
    let polys = c.args.polys.now in
    let within : c.args.at < length pairs = omega (arith, c.if-at-pairs.false) in
    let there = slice_get-get_or pairs c.args.at c.index-pairs-at.result within in
    let p = c.in-Some.poly.now in
    let l = c.in-Some.ensures.lookup in
    let right : slice_get polys c.args.right ≡ Some p =
    slice_get-get_or polys c.args.right p (grind (arith, nat_tests, l.0)) ∙ ap Some (sym l.1) in
    c.in_ok-attempt.ensures.tried
    ∙ (λ j. taken_at (sym there j) c.args.raised (sym right j))
