-- The new answer is right.
use Rattle.std.proofs.Common.{subst, sym}
use Rattle.rx_rank.proofs.MemoLaws.{right_answer}
use Rattle.rx_rank.specs.Memo.{Tells}
use Rattle.rx_rank.specs.declared.known_pair.KnownAnswer.{KnownAnswer}
use Rattle.rx_rank.proofs.known_pair.keep_answer.Goals as goal

pub invariant_of-known-2 : goal.invariant_of-known-2
invariant_of-known-2 c =
    let q = c.args.question.now in
    let answer = c.args.answer in
    let pair = c.known.inside.pair in
    let one : KnownAnswer = record {
      test = q.test;
      left = c.in_ok-left.left;
      right = c.in_ok-right.right;
      answer = answer;
      hash = q.hash;
      before = c.put-before.result;
    } in
    let given = subst (λ p. Tells q.test p q.left.now q.right.now answer) (sym c.known.view_is)
    c.requires in
    let told =
    subst (λ p. Tells q.test pair p one.right answer) (sym c.in_ok-left.ensures)
    (subst (λ p. Tells q.test pair q.left.now p answer) (sym c.in_ok-right.ensures) given) in
    record {
      tests = right_answer pair c.known.inside.answers.items c.push.new.self.items one
          c.in_ok-push.ensures.items told c.known.invariant.tests;
      instances = c.known.invariant.instances;
    }
