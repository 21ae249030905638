use Rattle.rx_term.proofs.RuleLaws.{rule_steps, rule_steps_inside}
use Rattle.rx_term.proofs.laws.rules_step_terms_of_their_shape.Goals as goal

pub returns-clause-here : goal.returns-clause-here
returns-clause-here c = rule_steps

pub returns-clause-inside : goal.returns-clause-inside
returns-clause-inside c = rule_steps_inside
