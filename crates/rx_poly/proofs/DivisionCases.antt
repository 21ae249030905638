-- A quotient or remainder of two polynomials is a number or an atom.
use Rattle.std.specs.Prelude.{ℤ, pos, int_div, int_rem}
use Rattle.rx_poly.specs.Constants.{number}
use Rattle.rx_poly.specs.Division.{atom_alone, division, parts, quotient_of, remainder_of}
use Rattle.rx_poly.specs.declared.body.Atom.TheVariants.{Div, Mod}
use Rattle.rx_poly.specs.declared.body.Body.{Body}
use Rattle.rx_poly.specs.declared.division.Parts.{Parts}
use Rattle.rx_poly.specs.declared.division.Parts.TheVariants.{ByZero, Numbers, Open}

by_parts : (P : Body → Type 0) (f : ℤ → ℤ → ℤ) (whole : Body) (r : Parts) →
    ((k : ℤ) → P (number k)) → P whole → P (division f whole r)
by_parts P f whole ByZero of_number of_whole = of_number (pos 0)
by_parts P f whole (Numbers m n) of_number of_whole = of_number (f m n)
by_parts P f whole Open of_number of_whole = of_whole

-- what holds of each number and of the atom holds of the quotient
pub quotient_cases : (P : Body → Type 0) (p q : Body) → ((k : ℤ) → P (number k)) →
    P (atom_alone (Div p q)) → P (quotient_of p q)
quotient_cases P p q = by_parts P int_div (atom_alone (Div p q)) (parts p q)

-- and of the remainder
pub remainder_cases : (P : Body → Type 0) (p q : Body) → ((k : ℤ) → P (number k)) →
    P (atom_alone (Mod p q)) → P (remainder_of p q)
remainder_cases P p q = by_parts P int_rem (atom_alone (Mod p q)) (parts p q)
