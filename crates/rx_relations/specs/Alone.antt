-- What is known of the atoms of a polynomial: each is a polynomial by itself.
use Rattle.std.specs.Prelude.{◌≡◌, true, All, ℤ}
use Rattle.rx_poly.specs.Division.{atom_alone}
use Rattle.rx_poly.specs.Normal.{is_poly}
use Rattle.rx_poly.specs.declared.body.Atom.{Atom}
use Rattle.rx_poly.specs.declared.body.Mono.{Mono, out-Mono}

abbrev pub IsAlone : Atom → Type 0
IsAlone x = is_poly (atom_alone x) ≡ true

-- so of those of a monomial
abbrev pub AreAlone : Mono × ℤ → Type 0
AreAlone t = All IsAlone (out-Mono t.0).atoms
