-- The instance of the rule decides.
use Rattle.rx_moves.proofs.RuleStepLaws.{rule_follows, rule_large}
use Rattle.rx_moves.proofs.rule_steps.show_rule.Goals as goal

pub returns-in-Ok-clause-outcome : goal.returns-in-Ok-clause-outcome
returns-in-Ok-clause-outcome g c =
    rule_follows c.args.goal.now c.args.side c.args.redex.now c.args.rule.now c.in-Ok.instance
    c.show_instance.result c.in-Ok.ensures.forms.0 c.in-Ok.ensures.forms.1
    c.show_instance.ensures.outcome

pub returns-in-Err-Large-clause-outcome : goal.returns-in-Err-Large-clause-outcome
returns-in-Err-Large-clause-outcome g c state first =
    rule_large c.args.goal.now c.args.side c.args.redex.now c.args.rule.now c.in-Err-Large.field-0
    state c.in-Err-Large.ensures.forms c.in-Err-Large.field-0-is
