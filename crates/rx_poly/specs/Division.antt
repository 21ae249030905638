-- The normal form of a quotient or remainder of two polynomials: by the constant 0 it is 0, of two
-- numbers it is their value, else an atom.
use Rattle.std.specs.Prelude.{Option, Some, None, if◌then◌else◌, [], ◌∷◌, ℤ, pos, int_div, int_rem}
use Rattle.rx_poly.specs.Constants.{number}
use Rattle.rx_poly.specs.Limits.{of_terms, of_atoms}
use Rattle.rx_poly.specs.Reading.{constant_of}
use Rattle.rx_poly.specs.Terms.{is_zero}
use Rattle.rx_poly.specs.declared.body.Atom.{Atom}
use Rattle.rx_poly.specs.declared.body.Atom.TheVariants.{Div, Mod}
use Rattle.rx_poly.specs.declared.body.Body.{Body, out-Body}
use Rattle.rx_poly.specs.declared.division.Operator.{Operator}
use Rattle.rx_poly.specs.declared.division.Operator.TheVariants.{Quotient, Remainder}
use Rattle.rx_poly.specs.declared.division.Parts.{Parts}
use Rattle.rx_poly.specs.declared.division.Parts.TheVariants.{ByZero, Numbers, Open}

-- what is divided by a number that isn't 0
abbrev pub by_number : Option ℤ → ℤ → Parts
by_number None n = Open
by_number (Some m) n = Numbers m n

-- which of the three it is, by the numbers that the two are, where they are numbers
abbrev pub parts_of : Option ℤ → Option ℤ → Parts
parts_of m None = Open
parts_of m (Some n) = if is_zero n then ByZero else by_number m n

-- the polynomial that is one atom
abbrev pub atom_alone : Atom → Body
atom_alone x = of_terms ((of_atoms (x ∷ []), pos 1) ∷ [])

-- the result, where `f` is that of numbers and `whole` the atom
abbrev pub division : (ℤ → ℤ → ℤ) → Body → Parts → Body
division f whole ByZero = of_terms []
division f whole (Numbers m n) = number (f m n)
division f whole Open = whole

-- what two polynomials are to a division
abbrev pub parts : Body → Body → Parts
parts p q = parts_of (constant_of (out-Body p).terms) (constant_of (out-Body q).terms)

-- the quotient, truncated toward zero
abbrev pub quotient_of : Body → Body → Body
quotient_of p q = division int_div (atom_alone (Div p q)) (parts p q)

-- the remainder that belongs to it
abbrev pub remainder_of : Body → Body → Body
remainder_of p q = division int_rem (atom_alone (Mod p q)) (parts p q)

-- the one or the other
abbrev pub divided : Operator → Body → Body → Body
divided Quotient p q = quotient_of p q
divided Remainder p q = remainder_of p q
