use Rattle.std.proofs.Common.{◌≡◌, [], ◌∷◌, drop}
use Rattle.rx_poly.specs.Limits.{of_atoms}
use Rattle.rx_poly.specs.Reading.{coefficient}
use Rattle.rx_poly.specs.declared.body.Atom.TheVariants.{Var}
use Rattle.rx_poly.proofs.poly.Poly.coeff_of.Given as goal

abbrev pub invariant-loop-term : goal.invariant-loop-term
invariant-loop-term l =
    coefficient (of_atoms (Var l.var ∷ [])) (drop l.term-index l.term-items) ≡
    coefficient (of_atoms (Var l.var ∷ [])) l.term-items
