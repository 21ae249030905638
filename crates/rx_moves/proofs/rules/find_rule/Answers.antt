-- What is shown is found.
use Rattle.std.proofs.Common.{refl}
use Rattle.rx_moves.proofs.RuleStepLaws.{rule_beyond, rule_failed, rule_found}
use Rattle.rx_moves.proofs.rules.find_rule.Goals as goal

pub returns-in-Shown-clause-found : goal.returns-in-Shown-clause-found
returns-in-Shown-clause-found g c = λ parts there state first.
    rule_found parts state c.args.side c.args.rule.now c.args.number there c.in_ok-made.field-0
    (c.in_ok-made.ensures.outcome state first) c.in-Shown.made c.in-Shown.certs c.in-Shown.is _
    c.of.result refl c.of.ensures

pub returns-in-Fails-clause-found : goal.returns-in-Fails-clause-found
returns-in-Fails-clause-found g c = λ parts there state first.
    rule_failed parts state c.args.side c.args.rule.now c.args.number there
    c.in_ok-made.field-0 (c.in_ok-made.ensures.outcome state first) c.failed.result
    c.in-Fails.is c.failed.ensures

pub returns-in-TooLarge-clause-found : goal.returns-in-TooLarge-clause-found
returns-in-TooLarge-clause-found g c = λ parts there state first.
    rule_beyond parts state c.args.side c.args.rule.now c.args.number there
    c.in_ok-made.field-0 (c.in_ok-made.ensures.outcome state first) c.too_large.result
    c.in-TooLarge.is c.too_large.ensures
