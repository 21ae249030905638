-- Where the case is open, the atom of the two is normal.
use Rattle.std.proofs.Common.{sym}
use Rattle.rx_poly.proofs.DivisionLaws.{open_quotient}
use Rattle.rx_poly.proofs.division.divide.Goals as goal

pub of_atom-requires : goal.of_atom-requires
of_atom-requires c =
    rw (
      c.in_ok-num-in-Open.ensures,
      c.body.ensures.body,
      c.in_ok-den-in-Open.ensures,
      c.body-in-Open.ensures.body,
    )
    (open_quotient c.args.num.now c.args.den.now (sym c.in-Open.ensures) c.body.ensures.normal
    c.body-in-Open.ensures.normal)
