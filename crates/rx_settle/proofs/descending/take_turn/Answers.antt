-- A move is made, or the first goal is taken away.
use Rattle.std.proofs.Common.{Option, subst}
use Rattle.rx_inference.specs.declared.step.Step.{Step}
use Rattle.rx_settle.specs.TaskAnswers.{Makes}
use Rattle.rx_settle.specs.Tasks.{tasked_move}
use Rattle.rx_settle.proofs.DescentLaws.{aside_answer, turn_moves}
use Rattle.rx_settle.proofs.descending.take_turn.Goals as goal

pub returns-in-Some-clause-found : goal.returns-in-Some-clause-found
returns-in-Some-clause-found g c =
    turn_moves c.args.rules.now c.args.descent.now c.requires.goes_on c.make_move.new.at
    c.in-Some.step
    (subst (λ (o : Option Step). Makes c.args.rules.now c.args.descent.now.at c.make_move.new.at
    (tasked_move c.args.rules.now c.args.descent.now.at) o) c.in-Some.is
    c.in_ok-step.ensures.made)

pub returns-in-None-clause-found : goal.returns-in-None-clause-found
returns-in-None-clause-found g c =
    aside_answer c.args.rules.now c.args.descent.now c.requires.goes_on c.make_move.new.at
    c.put_aside.new.self c.put_aside.result
    (subst (λ (o : Option Step). Makes c.args.rules.now c.args.descent.now.at c.make_move.new.at
    (tasked_move c.args.rules.now c.args.descent.now.at) o) c.in-None.is
    c.in_ok-step.ensures.made)
    c.put_aside.ensures
