-- A move is made, or none is left or applies.
use Rattle.std.proofs.Common.{Option, arith, subst}
use Rattle.rx_inference.specs.declared.step.Step.{Step}
use Rattle.rx_settle.specs.TaskAnswers.{Makes}
use Rattle.rx_settle.specs.Tasks.{tasked_move}
use Rattle.rx_settle.proofs.TaskedSettling.{no_move_left, none_applies, none_each, one_applies}
use Rattle.rx_settle.proofs.tasks.settle_tasks.Goals as goal

pub loop-settled-preserved : goal.loop-settled-preserved
loop-settled-preserved g c = record {
  known = c.in_ok-step.ensures.known;
  solver = c.in_ok-step.ensures.solver;
  moving =
      one_applies c.args.rules.now c.args.at.now c.loop-settled.at c.make_move.new.at
      c.loop-settled.settled c.loop-settled-test.true c.loop-settled.invariant.moving
      c.add_step.new.self c.in-Some.step c.in_ok-add_step-in-Some.ensures
      c.in_ok-step.ensures.hypotheses
      (subst (λ (o : Option Step). Makes c.args.rules.now c.loop-settled.at c.make_move.new.at
      (tasked_move c.args.rules.now c.loop-settled.at) o) c.in-Some.is c.in_ok-step.ensures.made);
}

pub returns-in-None-clause-settled : goal.returns-in-None-clause-settled
returns-in-None-clause-settled g c =
    none_applies c.args.rules.now c.args.at.now c.loop-settled.at c.make_move.new.at
    c.loop-settled.settled c.loop-settled-test.true c.loop-settled.invariant.moving
    (subst (λ (o : Option Step). Makes c.args.rules.now c.loop-settled.at c.make_move.new.at
    (tasked_move c.args.rules.now c.loop-settled.at) o) c.in-None.is c.in_ok-step.ensures.made)

pub returns-clause-settled : goal.returns-clause-settled
returns-clause-settled g c =
    no_move_left c.args.rules.now c.args.at.now c.loop-settled.at c.loop-settled.settled
    (omega arith) c.loop-settled.invariant.moving

pub returns-in-None-clause-tasks : goal.returns-in-None-clause-tasks
returns-in-None-clause-tasks g c =
    none_each c.args.rules.now c.args.at.now c.loop-settled.at c.make_move.new.at
    c.loop-settled.settled c.loop-settled-test.true c.loop-settled.invariant.moving
    (subst (λ (o : Option Step). Makes c.args.rules.now c.loop-settled.at c.make_move.new.at
    (tasked_move c.args.rules.now c.loop-settled.at) o) c.in-None.is c.in_ok-step.ensures.made)

pub returns-clause-tasks : goal.returns-clause-tasks
returns-clause-tasks g c = c.loop-settled.invariant.moving.each
