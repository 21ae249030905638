use Rattle.std.proofs.Common.{◌≤◌, ◌∙◌, length, refl, ap, sym, arith}
use Rattle.std.proofs.lemmas.Option.{slice_get_read}
use Rattle.c_meaning.specs.Counted.{counted, outcome_of}
use Rattle.c_code.specs.Flat.{Back, Rest}
use Rattle.c_machine.specs.Machines.{back_to}
use Rattle.c_machine.proofs.RunningCode.{falls-round, lost-above, lost-past, lower-kept}
use Rattle.c_machine.proofs.machine.Machine.run.Goals as goal

pub returns-then-ops-start : goal.returns-then-ops-start
returns-then-ops-start c =
    let program = c.args.code.now.program.now in
    let ops = c.args.code.now.ops.items in
    let back : Back = back_to (counted program) ops c.args.self.now.callers.items in
    let all = c.as_slice-ops.ensures.value in
    let past : length ops ≤ c.args.start = rw (sym all) (omega arith) in
    ap outcome_of (ap (λ (r : Rest). r c.args.self.now.store c.args.rounds)
    (lost-past (counted program) back ops c.args.start past))

pub advance-requires-clause-found : goal.advance-requires-clause-found
advance-requires-clause-found c =
    let all = c.as_slice-ops.ensures.value in
    let is = rw all at c.index-ops-at.is in
    let there = c.steps.invariant.there in
    slice_get_read c.args.code.now.ops.items (length c.args.code.now.ops.items) c.steps.at
    c.index-ops-at.result refl there is

pub returns-then-at-next : goal.returns-then-at-next
returns-then-at-next c =
    let program = c.args.code.now.program.now in
    let ops = c.args.code.now.ops.items in
    let back : Back = back_to (counted program) ops c.advance.new.self.callers.items in
    let step = rw c.in-On.is at c.in_ok-next.ensures.steps in
    ap outcome_of (c.steps.invariant.same ∙ (step ∙ ap (λ (r : Rest). r c.advance.new.self.store
    c.steps.left) (lost-above (counted program) back ops c.steps.at c.in-On.next (omega arith))))

pub steps-preserved-in-On : goal.steps-preserved-in-On
steps-preserved-in-On c =
    let program = c.args.code.now.program.now in
    let ops = c.args.code.now.ops.items in
    let back : Back = back_to (counted program) ops c.advance.new.self.callers.items in
    let step = rw c.in-On.is at c.in_ok-next.ensures.steps in
    let there = c.steps.invariant.there in
    record {
      same = c.steps.invariant.same ∙ (step ∙ ap (λ (r : Rest). r c.advance.new.self.store
          c.steps.left)
          (lower-kept (counted program) back ops c.steps.at c.in-On.next (omega arith)));
      there = omega arith;
    }

pub steps-smaller-in-Round : goal.steps-smaller-in-Round
steps-smaller-in-Round c =
    let both = rw c.in-Round.is at c.in_ok-next.ensures.falls in
    falls-round c.steps.left (length c.steps.self.callers.items)
    (length c.advance.new.self.callers.items) (length c.args.code.now.ops.items) c.steps.at
    c.in-Round.next
    both.0 both.1

pub returns-then-ops-next : goal.returns-then-ops-next
returns-then-ops-next c =
    let program = c.args.code.now.program.now in
    let ops = c.args.code.now.ops.items in
    let back : Back = back_to (counted program) ops c.advance.new.self.callers.items in
    let step = rw c.in-Back.is at c.in_ok-next.ensures.steps in
    let all = c.as_slice-ops.ensures.value in
    let past : length ops ≤ c.in-Back.next = rw (sym all) (omega arith) in
    ap outcome_of (c.steps.invariant.same ∙ (step ∙ ap (λ (r : Rest). r c.advance.new.self.store
    c.steps.left) (lost-past (counted program) back ops c.in-Back.next past)))
