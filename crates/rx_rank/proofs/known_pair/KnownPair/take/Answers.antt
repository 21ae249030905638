-- What is found, or made, is right.
use Rattle.std.proofs.Common.{◌≡◌, ◌∙◌, IfSome, ap, option_copied, subst, sym}
use Rattle.rx_poly.specs.declared.body.Body.{Body}
use Rattle.rx_pairs.specs.declared.pair.Pair.{Pair}
use Rattle.rx_rank.proofs.MemoLaws.{of_copy}
use Rattle.rx_rank.specs.Answers.{tried}
use Rattle.rx_rank.specs.Memo.{AreTaken, taken}
use Rattle.rx_rank.specs.declared.attempt.Attempt.{Attempt}
use Rattle.rx_rank.proofs.known_pair.KnownPair.take.Goals as goal

pub returns-in-Some-clause-tried : goal.returns-in-Some-clause-tried
returns-in-Some-clause-tried c =
    let a = c.args in
    let pair = c.self.inside.pair in
    let right = subst (AreTaken pair) (sym c.as_slice.ensures.value) c.self.invariant.instances in
    let told = subst (λ o. IfSome (option_copied o)
    (λ (t : Attempt Body). tried t ≡ taken a.raised pair a.right.now)) c.in-Some.is
    (c.find_taking.ensures pair right) in
    of_copy (λ (t : Attempt Body). tried t ≡ taken a.raised a.self.now a.right.now)
    c.in-Some.attempt.now c.copied_attempt.result c.copied_attempt.ensures
    (subst (λ (p : Pair). tried c.in-Some.attempt.now ≡ taken a.raised p a.right.now)
    c.self.view_is told)

pub keep_taking-requires : goal.keep_taking-requires
keep_taking-requires c =
    let a = c.args in
    ap (λ (t : Attempt Body). tried t) c.in_ok-copy.ensures
    ∙ c.in_ok-attempt.ensures
    ∙ ap (λ (p : Pair). taken a.raised p a.right.now) c.self.view_is

pub returns-clause-tried : goal.returns-clause-tried
returns-clause-tried c =
    let a = c.args in
    c.in_ok-attempt.ensures ∙ ap (λ (p : Pair). taken a.raised p a.right.now) c.self.view_is
