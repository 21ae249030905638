-- One more lemma.
use Rattle.std.proofs.Common.{◌∙◌, ap}
use Rattle.rx_wider.specs.Calls.{opening_of}
use Rattle.rx_wider.specs.Tails.{with_lemma}
use Rattle.rx_wider.proofs.Tailing.{folded_more}
use Rattle.rx_wider.proofs.lemmas.with_lemmas.Goals as goal

pub with_lemma-requires-clause-begun : goal.with_lemma-requires-clause-begun
with_lemma-requires-clause-begun g c =
    let (from, is) = c.requires.begun in (from, c.loop-tail.invariant.begun from is)

pub loop-tail-preserved : goal.loop-tail-preserved
loop-tail-preserved g c =
    let a = c.args in
    let f = with_lemma a.target.now.setting.now.kind a.target.now.setting.now.rules.now a.target.now.goal.now in
    record {
      known = c.in_ok-begun.ensures.known;
      solver = c.in_ok-begun.ensures.solver;
      opening =
          c.in_ok-begun.ensures.opening
          ∙ ap (λ o. f o c.tail-item.result) c.loop-tail.invariant.opening
          ∙ folded_more f (opening_of a.begun) a.tails.now c.loop-tail.tail-index
          c.tail-item.result c.loop-tail-test.true c.tail-item.is;
      begun =
          λ from is. c.in_ok-begun.ensures.begun from (c.loop-tail.invariant.begun from is);
    }
