-- Where no certificate is asked for, there is nothing to look at.
use Rattle.std.proofs.Common.{rules}
use Rattle.rx_cert.proofs.ShowingLaws.{none_left}
use Rattle.rx_cert.proofs.conditions.check_in_order.Goals as goal

pub returns-then-is_empty-clause-answer : goal.returns-then-is_empty-clause-answer
returns-then-is_empty-clause-answer c =
    none_left c.args.given.now c.args.rows.now c.args.first c.args.certs.now c.requires.count
    (search rules)
