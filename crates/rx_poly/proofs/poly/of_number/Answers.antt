-- One number that isn't 0 is a polynomial.
use Rattle.std.proofs.Common.{rules, FitsSigned}
use Rattle.std.specs.Int.{w128}
use Rattle.rx_poly.proofs.Constants.{number_poly, read_nonzero, read_fits}
use Rattle.rx_poly.proofs.poly.of_number.Goals as goal

pub invariant_of-result : goal.invariant_of-result
invariant_of-result c =
    let f : FitsSigned w128 c.args.by.now = search rules in
    rw (c.in_ok-body.ensures, c.in_ok-push.ensures.ok, c.new-terms.ensures, c.new.ensures)
    (number_poly _ (read_nonzero c.args.by.now f c.if-by-eq0.false) (read_fits c.args.by.now f))
