use Rattle.rx_lines.proofs.OrderLaws.{bad_at, missing_at}
use Rattle.rx_lines.proofs.laws.first_bad_lines_are_found.Goals as goal

pub returns-clause-bad_at : goal.returns-clause-bad_at
returns-clause-bad_at g c = bad_at g.O.LineOrder.order c.requires

pub returns-clause-missing_at : goal.returns-clause-missing_at
returns-clause-missing_at g c = missing_at g.O.LineOrder.order c.requires
