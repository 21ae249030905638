-- An expansion that doesn't keep the goal adds no hypothesis.
use Rattle.rx_settle.proofs.TaskLaws.{expansion_answer}
use Rattle.rx_settle.proofs.task_moves.make_due.Goals as goal

pub returns-clause-hypotheses : goal.returns-clause-hypotheses
returns-clause-hypotheses g c =
    expansion_answer c.args.rules.now c.args.at.now.state c.try_step.new.state
    c.give_where_taken.new.at.state c.in-Some.due.side c.in_ok-trial.trial
    c.give_where_taken.result c.in_ok-trial.ensures.trial c.give_where_taken.ensures.state
