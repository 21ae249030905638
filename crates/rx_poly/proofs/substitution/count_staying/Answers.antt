-- Each turn counts one more term; the first that doesn't stay ends the walk.
use Rattle.std.proofs.Common.{◌∙◌, ◌+◌, ap, sym, ℤ}
use Rattle.rx_poly.specs.Replacements.{replacements, mono_stays}
use Rattle.rx_poly.specs.declared.body.Mono.{Mono}
use Rattle.rx_poly.proofs.Walks.{all_counted, no_more, one_more}
use Rattle.rx_poly.proofs.substitution.count_staying.Goals as goal

pub loop-term-preserved : goal.loop-term-preserved
loop-term-preserved c = (
  ap (λ n. n + 1) c.loop-term.invariant.0,
  one_more (λ (t : Mono × ℤ). mono_stays (replacements c.args.with) t.0) c.args.terms.now
      c.loop-term.term-index c.term-item.result c.loop-term-test.true c.term-item.is
      (sym c.mono_stays.ensures ∙ c.if-not-mono_stays.false) c.loop-term.count _
      c.loop-term.invariant.1,
)

pub returns-then-not-mono_stays : goal.returns-then-not-mono_stays
returns-then-not-mono_stays c =
    no_more (λ (t : Mono × ℤ). mono_stays (replacements c.args.with) t.0) c.args.terms.now
    c.loop-term.term-index c.term-item.result c.loop-term-test.true c.term-item.is
    (sym c.mono_stays.ensures ∙ c.if-not-mono_stays.true) c.loop-term.count _
    c.loop-term.invariant.1

pub returns : goal.returns
returns c =
    all_counted (λ (t : Mono × ℤ). mono_stays (replacements c.args.with) t.0) c.args.terms.now
    c.loop-term.term-index c.loop-term-test.false c.loop-term.count _ c.loop-term.invariant.1
