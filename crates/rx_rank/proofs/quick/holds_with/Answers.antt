-- What is found of the pair is what is said of the polynomials with these numbers.
use Rattle.std.proofs.Common.{◌≡◌, ◌∙◌, ap, sym, subst, cond, arith, ◌==◌, true, IfOk, Some}
use Rattle.std.proofs.lemmas.Bool.Decides.{nat_tests}
use Rattle.rx_cert.specs.Findings.{Yes}
use Rattle.rx_anchors.specs.Values.{polynomial_of}
use Rattle.rx_rank.proofs.NumberLaws.{value_at}
use Rattle.rx_rank.specs.Answers.{found}
use Rattle.rx_rank.specs.Choices.{tested}
use Rattle.rx_rank.specs.Numbers.{by_number, by_numbers, holds_at}
use Rattle.rx_rank.specs.PairTests.{holds}
use Rattle.rx_rank.proofs.quick.holds_with.Goals as goal

pub returns-clause-found : goal.returns-clause-found
returns-clause-found g c pair p there is =
    let n = c.args.numbered.now in
    let values = c.args.turn.now.values.now in
    let symbol = c.args.turn.now.symbol in
    let same : c.in-Some.pair.now ≡ pair = let e = c.in-Some.ensures ∙ there in cc in
    let target : by_number n.polys (Some c.in-Some-number_of.right) ≡
    polynomial_of (by_numbers n.polys values) pair.right.0 =
    ap (by_number n.polys) c.in-Some-number_of.ensures
    ∙ sym (value_at n.polys values c.in-Some.pair.now.right.0)
    ∙ ap (λ q. polynomial_of (by_numbers n.polys values) q.right.0) same in
    let own : (pair.left.0 == symbol) ≡ true =
    subst (λ q. (q.left.0 == symbol) ≡ true) same
    (grind (arith, nat_tests, c.if-pair-turn.false)) in
    subst (λ s. IfOk c.holds_at.result (λ f. found f ≡ s))
    ((λ j. holds_at (there j) (is j) (target j))
    ∙ ap (λ b. cond b (tested (holds pair) (Some p)
    (polynomial_of (by_numbers n.polys values) pair.right.0)) Yes) (sym own))
    c.holds_at.ensures.found
