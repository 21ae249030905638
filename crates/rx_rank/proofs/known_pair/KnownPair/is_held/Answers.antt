-- What is said is said of this test.
use Rattle.std.proofs.Common.{◌≡◌, IfOk, subst}
use Rattle.rx_poly.specs.declared.body.Body.{Body}
use Rattle.rx_rank.specs.Answers.{found}
use Rattle.rx_rank.specs.Memo.{said_of}
use Rattle.rx_rank.specs.declared.attempt.Finding.{Finding}
use Rattle.rx_rank.specs.declared.known_pair.PairTest.{PairTest}
use Rattle.rx_rank.proofs.known_pair.KnownPair.is_held.Goals as goal

pub returns-clause-found : goal.returns-clause-found
returns-clause-found g c =
    let a = c.args in
    let q = c.test_by.result in
    let r = c.recall_finding.result in
    let pair = a.self.now in
    let right = subst (λ (y : Body).
    IfOk r (λ (f : Finding). found f ≡ said_of q.test pair q.left.now y))
    c.test_by.ensures.right c.recall_finding.ensures.finding in
    let left = subst (λ (x : Body).
    IfOk r (λ (f : Finding). found f ≡ said_of q.test pair x a.right.now))
    c.test_by.ensures.left right in
    subst (λ (t : PairTest).
    IfOk r (λ (f : Finding). found f ≡ said_of t pair a.left.now a.right.now))
    c.test_by.ensures.test left
