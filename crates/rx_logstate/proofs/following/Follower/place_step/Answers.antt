-- A step before the number, the one with it, or one behind.
use Rattle.std.proofs.Common.{◌<◌, arith}
use Rattle.rx_logstate.proofs.StepLemmas.{step_before, step_found, step_past}
use Rattle.rx_logstate.proofs.following.Follower.place_step.Goals as goal

pub returns-then-self-clause-places : goal.returns-then-self-clause-places
returns-then-self-clause-places c = λ target number log h.
    step_before c.args.rules.now target number log c.args.self.now h c.args.step
    c.take.new.self c.if-self.true (c.in_ok-take.ensures target)

pub returns-then-self-2-clause-places : goal.returns-then-self-2-clause-places
returns-then-self-2-clause-places c = λ target number log h.
    step_found c.args.rules.now target number log c.args.self.now h c.args.step c.push.new.self
    c.in_ok-push.ensures.ok c.if-self-2.true

pub returns-clause-places : goal.returns-clause-places
returns-clause-places c = λ target number log h.
    let late : c.args.self.now.number < c.args.self.now.steps = omega arith in
    step_past c.args.rules.now target number log c.args.self.now h c.args.step late
