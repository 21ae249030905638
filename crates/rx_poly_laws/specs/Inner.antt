-- The dividends and divisors that occur in a polynomial, one level down.
use Rattle.std.specs.Prelude.{List, [], ◌∷◌, ℤ}
use Rattle.std.specs.List.{flat_map}
use Rattle.rx_poly.specs.declared.body.Atom.{Atom, Atom-F, out-Atom}
use Rattle.rx_poly.specs.declared.body.Mono.{Mono, out-Mono}
use Rattle.rx_poly.specs.declared.body.Body.{Body, out-Body}

-- the two parts of a quotient or remainder
abbrev pub parts_of : Atom-F Atom Body Mono → List Body
parts_of (Atom-F.Var n) = []
parts_of (Atom-F.Div p q) = p ∷ q ∷ []
parts_of (Atom-F.Mod p q) = p ∷ q ∷ []

-- those of the atoms of a monomial
abbrev pub inner_of_mono : Mono → List Body
inner_of_mono m = flat_map (λ x. parts_of (out-Atom x)) (out-Mono m).atoms

-- those of the monomials of a sum
abbrev pub inner : Body → List Body
inner p = flat_map (λ (t : Mono × ℤ). inner_of_mono t.0) (out-Body p).terms
