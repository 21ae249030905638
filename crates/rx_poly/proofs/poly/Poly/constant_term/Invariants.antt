use Rattle.std.proofs.Common.{◌≡◌, [], drop}
use Rattle.rx_poly.specs.Limits.{of_atoms}
use Rattle.rx_poly.specs.Reading.{coefficient}
use Rattle.rx_poly.proofs.poly.Poly.constant_term.Given as goal

abbrev pub invariant-loop-term : goal.invariant-loop-term
invariant-loop-term l =
    coefficient (of_atoms []) (drop l.term-index l.term-items) ≡
    coefficient (of_atoms []) l.term-items
