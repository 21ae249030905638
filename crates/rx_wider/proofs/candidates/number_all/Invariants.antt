-- The polynomials so far, and then those that are left, are all.
use Rattle.std.proofs.Common.{◌≡◌, length}
use Rattle.rx_poly.specs.Substitution.{numbered}
use Rattle.rx_wider.proofs.candidates.number_all.Given as goal

abbrev pub invariant-loop-poly : goal.invariant-loop-poly
invariant-loop-poly l = record {
  subst : l.subst ≡ numbered l.yielded;
  next : l.next ≡ length l.yielded;
}
