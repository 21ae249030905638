-- A number that isn't 0 times one variable is a polynomial.
use Rattle.std.proofs.Common.{rules, ◌∙◌, ap, FitsSigned}
use Rattle.std.proofs.lemmas.Int.{to_z-of_z}
use Rattle.std.specs.Int.{w128}
use Rattle.rx_poly.specs.Terms.{is_zero}
use Rattle.rx_poly.proofs.Constants.{multiple_poly, read_fits}
use Rattle.rx_poly.proofs.poly.of_multiple.Goals as goal

pub invariant_of-result : goal.invariant_of-result
invariant_of-result c =
    let f : FitsSigned w128 c.args.by.now = search rules in
    rw (
      c.in_ok-body.ensures,
      c.in_ok-push-2.ensures.ok,
      c.in_ok-push.ensures.ok,
      c.new-terms.ensures,
      c.new-atoms.ensures,
    ) (multiple_poly _ c.args.at (ap is_zero (to_z-of_z w128 c.args.by.now f) ∙ c.requires)
    (read_fits c.args.by.now f))
