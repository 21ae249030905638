-- One turn of the walk, and its end.
use Rattle.std.proofs.Common.{◌≡◌, ◌∙◌, ap, sym, subst, arith, ◌<◌, [], drop, drop_of_length-le, length, slice_get, Some, Err}
use Rattle.std.proofs.lemmas.List.{length-map}
use Rattle.std.proofs.lemmas.Result.{err_from_is_err_and}
use Rattle.rx_term.specs.declared.rule_set.RuleParts.{RuleParts}
use Rattle.rx_term.proofs.Places.{at_some}
use Rattle.rx_domain.specs.Answers.{Tells}
use Rattle.rx_domain.specs.Keeping.{Fails, keeping, keeping_from, parts_kept, rule_part}
use Rattle.rx_domain.proofs.Kept.{goal_inside, steps_stay_inside}
use Rattle.rx_domain.proofs.Turns.{both_end, lists_end, turn_ends, turn_kept, turn_there}
use Rattle.rx_domain.proofs.keeping.keeps.Goals as goal

pub loop-part-preserved : goal.loop-part-preserved
loop-part-preserved c =
    let all = parts_kept c.args.rules.now c.args.goal.now in
    let next : slice_get c.args.lists.now c.loop-part.part ≡ Some c.as_slice.result.now =
    at_some c.args.lists.now c.loop-part.part c.as_slice.result.now c.index-lists-part.result
    c.loop-part-test.true (c.as_slice.ensures ∙ c.index-lists-part.is) in record {
      decides =
          turn_kept all c.loop-part.part c.args.lists.now c.as_slice.result.now next
          c.in_ok-keep_one.ensures.exact ∙ c.loop-part.invariant.decides;
      there =
          turn_there all c.loop-part.part c.args.lists.now c.as_slice.result.now next
          c.in_ok-keep_one.ensures.exact;
    }

pub returns-in_err-keep_one-clause-exact : goal.returns-in_err-keep_one-clause-exact
returns-in_err-keep_one-clause-exact c =
    let all = parts_kept c.args.rules.now c.args.goal.now in
    let next : slice_get c.args.lists.now c.loop-part.part ≡ Some c.as_slice.result.now =
    at_some c.args.lists.now c.loop-part.part c.as_slice.result.now c.index-lists-part.result
    c.loop-part-test.true (c.as_slice.ensures ∙ c.index-lists-part.is) in
    let p = err_from_is_err_and c.from_residual.result c.from_residual.ensures.1 in
    let told : Tells (keeping c.args.rules.now c.args.goal.now c.args.lists.now)
    c.from_residual.result = rw (p.1, p.2) (subst (λ z. Tells z (Err c.in_err-keep_one.field-0.0))
    c.loop-part.invariant.decides (turn_ends all c.loop-part.part c.args.lists.now
    c.as_slice.result.now next c.in_err-keep_one.field-0.0 c.in_err-keep_one.ensures.exact)) in
    told

pub returns-then-lists-len-clause-exact : goal.returns-then-lists-len-clause-exact
returns-then-lists-len-clause-exact c =
    let parts = c.args.rules.now in
    let all = parts_kept parts c.args.goal.now in
    let none : drop c.loop-part.part c.args.lists.now ≡ [] =
    drop_of_length-le c.args.lists.now (omega (arith, c.loop-part-test.false)) in
    let number : c.loop-part.part ≡ length c.args.lists.now =
    omega (arith, c.loop-part-test.false, c.loop-part.auto.part-end) in
    let many = length-map parts.rules (rule_part parts) in
    let lent = c.len.ensures ∙ ap (λ (p : RuleParts). length p.rules) c.parts.ensures.parts in
    let there : c.loop-part.part < length all =
    omega (arith, number, many, lent, c.if-lists-len.true) in
    sym c.loop-part.invariant.decides
    ∙ ap (keeping_from c.loop-part.part (drop c.loop-part.part all)) none
    ∙ lists_end all c.loop-part.part there ∙ ap Fails number

pub returns-clause-goal : goal.returns-clause-goal
returns-clause-goal c =
    let parts = c.args.rules.now in
    let lent = c.len.ensures ∙ ap (λ (p : RuleParts). length p.rules) c.parts.ensures.parts in
    let kept = both_end parts c.args.goal.now c.args.lists.now c.loop-part.part
    c.loop-part.invariant.decides (omega (arith, c.loop-part-test.false))
    (omega (arith, lent, c.if-lists-len.false)) in
    goal_inside parts c.parts.ensures.domains c.args.goal.now c.args.lists.now kept

pub returns-clause-steps : goal.returns-clause-steps
returns-clause-steps c =
    let parts = c.args.rules.now in
    let lent = c.len.ensures ∙ ap (λ (p : RuleParts). length p.rules) c.parts.ensures.parts in
    let kept = both_end parts c.args.goal.now c.args.lists.now c.loop-part.part
    c.loop-part.invariant.decides (omega (arith, c.loop-part-test.false))
    (omega (arith, lent, c.if-lists-len.false)) in
    steps_stay_inside parts c.parts.ensures.domains c.args.goal.now c.args.lists.now kept
    c.parts.ensures.made
