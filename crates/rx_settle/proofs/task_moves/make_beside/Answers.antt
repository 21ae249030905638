-- A use adds no hypothesis.
use Rattle.rx_settle.specs.declared.uses.Matching.TheVariants.{BothSides}
use Rattle.rx_settle.proofs.TaskLaws.{uses_answer}
use Rattle.rx_settle.proofs.task_moves.make_beside.Goals as goal

pub returns-clause-hypotheses : goal.returns-clause-hypotheses
returns-clause-hypotheses g c =
    uses_answer c.args.rules.now c.args.at.now.state c.try_uses.new.state
    c.give_where_taken.new.at.state BothSides c.in_ok-trial.trial
    c.give_where_taken.result c.in_ok-trial.ensures.trial c.give_where_taken.ensures.state
