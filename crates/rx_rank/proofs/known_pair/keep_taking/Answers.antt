-- What is kept now is right.
use Rattle.std.proofs.Common.{◌≡◌, ◌∙◌, ap, sym}
use Rattle.rx_rank.proofs.MemoLaws.{right_taking}
use Rattle.rx_rank.specs.Answers.{tried}
use Rattle.rx_rank.specs.Memo.{taken}
use Rattle.rx_rank.specs.declared.known_pair.KnownTaking.{KnownTaking}
use Rattle.rx_rank.proofs.known_pair.keep_taking.Goals as goal

pub invariant_of-known-2 : goal.invariant_of-known-2
invariant_of-known-2 c =
    let a = c.args in
    let pair = c.known.inside.pair in
    let one : KnownTaking = record {
      raised = a.raised;
      right = c.in_ok-right.right;
      attempt = a.attempt;
      hash = a.hash;
      before = c.put-before.result;
    } in
    let told : tried a.attempt ≡ taken a.raised pair c.in_ok-right.right =
    c.requires ∙ ap (λ p. taken a.raised p a.right.now) (sym c.known.view_is)
    ∙ ap (taken a.raised pair) (sym c.in_ok-right.ensures) in
    record {
      tests = c.known.invariant.tests;
      instances = right_taking pair c.known.inside.takings.items c.push.new.self.items one
          c.in_ok-push.ensures.items told c.known.invariant.instances;
    }
