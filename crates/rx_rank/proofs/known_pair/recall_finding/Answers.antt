-- The answer that is found is right, and says what it is to say.
use Rattle.std.proofs.Common.{IfSome, option_copied, subst, sym}
use Rattle.rx_rank.specs.Memo.{AreRight, Tells}
use Rattle.rx_rank.proofs.known_pair.recall_finding.Goals as goal

pub returns-in-Some-clause-finding : goal.returns-in-Some-clause-finding
returns-in-Some-clause-finding g c =
    let q = c.args.question.now in
    let pair = c.known.inside.pair in
    let tells = Tells q.test pair q.left.now q.right.now in
    let right = subst (AreRight pair) (sym c.as_slice.ensures.value) c.known.invariant.tests in
    let told = subst (λ o. IfSome (option_copied o) tells) c.in-Some.is
    (c.find_answer.ensures pair right) in
    c.finding_of.ensures q.test c.args.known.now q.left.now q.right.now
    (subst (λ p. Tells q.test p q.left.now q.right.now c.in-Some.answer.now) c.known.view_is told)
