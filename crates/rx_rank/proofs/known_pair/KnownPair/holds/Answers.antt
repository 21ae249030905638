-- The answer is that of this test.
use Rattle.std.proofs.Common.{IfOk, subst}
use Rattle.rx_poly.specs.declared.body.Body.{Body}
use Rattle.rx_rank.specs.Memo.{Tells}
use Rattle.rx_rank.specs.declared.known_pair.PairTest.{PairTest}
use Rattle.rx_rank.proofs.known_pair.KnownPair.holds.Goals as goal

pub returns-clause-answer : goal.returns-clause-answer
returns-clause-answer g c =
    let a = c.args in
    let q = c.test_by.result in
    let r = c.recall_answer.result in
    let pair = a.self.now in
    let right = subst (λ (y : Body). IfOk r (Tells q.test pair q.left.now y))
    c.test_by.ensures.right c.recall_answer.ensures.answer in
    let left = subst (λ (x : Body). IfOk r (Tells q.test pair x a.right.now))
    c.test_by.ensures.left right in
    subst (λ (t : PairTest). IfOk r (Tells t pair a.left.now a.right.now)) c.test_by.ensures.test
    left
