-- What is left of the list decides, and the rows are the given ones again.
use Rattle.std.proofs.Common.{◌≡◌, ◌+◌, drop}
use Rattle.rx_cert.specs.Conditions.{in_order}
use Rattle.rx_cert.proofs.conditions.check_in_order.Given as goal

abbrev pub invariant-loop-at : goal.invariant-loop-at
invariant-loop-at l = record {
  decides : in_order (l.first + l.at) l.given (drop l.at l.rows) l.left ≡
      in_order l.first l.given l.rows l.certs;
  lent : l.lent.items ≡ l.given;
}
