-- What is shown row by row holds wherever the given rows do.
use Rattle.rx_cert.proofs.ConditionLaws.{answer_holds}
use Rattle.rx_cert.proofs.conditions.check_conditions.Goals as goal

pub returns-clause-holds : goal.returns-clause-holds
returns-clause-holds c =
    answer_holds c.check_in_order.result c.args.given.now c.args.rows.now c.args.certs.now
    c.check_in_order.ensures.answer
