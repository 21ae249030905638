-- The answer that is found is right, and so is its copy.
use Rattle.std.proofs.Common.{IfSome, option_copied, subst, sym}
use Rattle.rx_rank.proofs.MemoLaws.{of_copy}
use Rattle.rx_rank.specs.Memo.{AreRight, Tells}
use Rattle.rx_rank.proofs.known_pair.recall_answer.Goals as goal

pub returns-in-Some-clause-answer : goal.returns-in-Some-clause-answer
returns-in-Some-clause-answer g c =
    let q = c.args.question.now in
    let pair = c.known.inside.pair in
    let tells = Tells q.test pair q.left.now q.right.now in
    let right = subst (AreRight pair) (sym c.as_slice.ensures.value) c.known.invariant.tests in
    let told = subst (λ o. IfSome (option_copied o) tells) c.in-Some.is
    (c.find_answer.ensures pair right) in
    of_copy (Tells q.test c.args.known.now q.left.now q.right.now) c.in-Some.answer.now
    c.copied_answer.result c.copied_answer.ensures
    (subst (λ p. Tells q.test p q.left.now q.right.now c.in-Some.answer.now) c.known.view_is told)
