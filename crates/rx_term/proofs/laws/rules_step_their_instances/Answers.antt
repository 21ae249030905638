use Rattle.rx_term.proofs.RuleLaws.{instance_steps, instance_steps_inside}
use Rattle.rx_term.proofs.laws.rules_step_their_instances.Goals as goal

pub returns-clause-here : goal.returns-clause-here
returns-clause-here c = instance_steps

pub returns-clause-inside : goal.returns-clause-inside
returns-clause-inside c = instance_steps_inside
