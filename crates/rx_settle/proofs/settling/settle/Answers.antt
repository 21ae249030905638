-- A move is made, or none is left or applies.
use Rattle.std.proofs.Common.{arith, subst, Bool}
use Rattle.rx_settle.specs.Advances.{Advances}
use Rattle.rx_settle.proofs.MoveLaws.{fewer_left, no_move_left, none_applies, none_keeps, one_applies}
use Rattle.rx_settle.proofs.settling.settle.Goals as goal

pub returns-then-not-branch-clause-settled : goal.returns-then-not-branch-clause-settled
returns-then-not-branch-clause-settled g c =
    none_applies c.args.rules.now c.args.state.now c.loop-settled.state c.advance.new.state
    c.loop-settled.settled c.advance.new.settled c.loop-settled-test.true
    c.loop-settled.invariant.moving
    (subst (λ (b : Bool). Advances c.args.rules.now c.loop-settled.state c.advance.new.state
    c.loop-settled.settled c.advance.new.settled b) c.if-not-branch.true
    c.in_ok-advance.ensures.advances)

pub returns-then-not-branch-clause-hypotheses : goal.returns-then-not-branch-clause-hypotheses
returns-then-not-branch-clause-hypotheses g c =
    none_keeps c.args.rules.now c.args.state.now c.loop-settled.state c.advance.new.state
    c.loop-settled.settled c.advance.new.settled c.loop-settled-test.true
    c.loop-settled.invariant.moving
    (subst (λ (b : Bool). Advances c.args.rules.now c.loop-settled.state c.advance.new.state
    c.loop-settled.settled c.advance.new.settled b) c.if-not-branch.true
    c.in_ok-advance.ensures.advances)

pub loop-settled-preserved : goal.loop-settled-preserved
loop-settled-preserved g c = record {
  known = c.in_ok-advance.ensures.known;
  solver = c.in_ok-advance.ensures.solver;
  moving =
      one_applies c.args.rules.now c.args.state.now c.loop-settled.state c.advance.new.state
      c.loop-settled.settled c.advance.new.settled c.loop-settled-test.true
      c.loop-settled.invariant.moving
      c.in_ok-advance.ensures.hypotheses
      (subst (λ (b : Bool). Advances c.args.rules.now c.loop-settled.state c.advance.new.state
      c.loop-settled.settled c.advance.new.settled b) c.if-not-branch.false
      c.in_ok-advance.ensures.advances);
}

pub loop-settled-smaller : goal.loop-settled-smaller
loop-settled-smaller g c =
    fewer_left c.args.rules.now c.args.state.now c.loop-settled.state c.advance.new.state
    c.loop-settled.settled c.advance.new.settled c.loop-settled-test.true
    c.loop-settled.invariant.moving
    (subst (λ (b : Bool). Advances c.args.rules.now c.loop-settled.state c.advance.new.state
    c.loop-settled.settled c.advance.new.settled b) c.if-not-branch.false
    c.in_ok-advance.ensures.advances)

pub returns-clause-settled : goal.returns-clause-settled
returns-clause-settled g c =
    no_move_left c.args.rules.now c.args.state.now c.loop-settled.state c.loop-settled.settled
    (omega arith) c.loop-settled.invariant.moving

pub returns-clause-hypotheses : goal.returns-clause-hypotheses
returns-clause-hypotheses g c = c.loop-settled.invariant.moving.hypotheses
