-- One pair more.
use Rattle.std.proofs.Common.{◌≡◌, ◌∙◌, ap, sym, subst, arith, ◌+◌, ◌<◌, Some, drop, drop_of_length-le, length, slice_get}
use Rattle.rx_pairs.specs.declared.pair.Pair.{Pair}
use Rattle.rx_rank.proofs.NumberLaws.{next_held}
use Rattle.rx_rank.proofs.Walks.{goes_on, stops}
use Rattle.rx_rank.specs.Answers.{found}
use Rattle.rx_rank.specs.Choices.{all_hold, holds_by}
use Rattle.rx_rank.specs.Numbers.{Numbered, by_numbers}
use Rattle.rx_rank.proofs.quick.are_held.Goals as goal

pub returns-then-not-is_shown-clause-found : goal.returns-then-not-is_shown-clause-found
returns-then-not-is_shown-clause-found g c =
    let n = c.args.numbered.now in
    let values = by_numbers n.polys c.args.values.now in
    let at = c.loop-at.at in
    let s = found c.in_ok-finding.finding in
    let within : at < length n.pairs = omega (arith, c.loop-at-test.true, c.count-at-end.ensures) in
    let told = subst (λ (m : Numbered). (pair : Pair) → slice_get m.pairs at ≡ Some pair →
    s ≡ holds_by (by_numbers m.polys c.args.values.now) pair)
    c.loop-at.invariant.same c.in_ok-finding.ensures.found in
    sym (stops s (all_hold values (drop (at + 1) n.pairs))
    (sym c.is_shown.ensures ∙ c.if-not-is_shown.true))
    ∙ sym (next_held values n.pairs at s within told)
    ∙ c.loop-at.invariant.decides

pub loop-at-preserved : goal.loop-at-preserved
loop-at-preserved g c =
    let n = c.args.numbered.now in
    let values = by_numbers n.polys c.args.values.now in
    let at = c.loop-at.at in
    let s = found c.in_ok-finding.finding in
    let within : at < length n.pairs = omega (arith, c.loop-at-test.true, c.count-at-end.ensures) in
    let told = subst (λ (m : Numbered). (pair : Pair) → slice_get m.pairs at ≡ Some pair →
    s ≡ holds_by (by_numbers m.polys c.args.values.now) pair)
    c.loop-at.invariant.same c.in_ok-finding.ensures.found in
    record {
      solver = c.is_held.ensures.solver;
      same = c.is_held.ensures.same ∙ c.loop-at.invariant.same;
      decides =
          sym (next_held values n.pairs at s within told
          ∙ goes_on s (all_hold values (drop (at + 1) n.pairs))
          (sym c.is_shown.ensures ∙ c.if-not-is_shown.false))
          ∙ c.loop-at.invariant.decides;
    }

pub returns-clause-found : goal.returns-clause-found
returns-clause-found g c =
    let n = c.args.numbered.now in
    let values = by_numbers n.polys c.args.values.now in
    ap (all_hold values)
    (sym (drop_of_length-le n.pairs (omega (arith, c.loop-at-test.false, c.count-at-end.ensures))))
    ∙ c.loop-at.invariant.decides
