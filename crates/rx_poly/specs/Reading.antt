-- What can be read from a polynomial: the number or the variable that it is, and the coefficient
-- that a monomial has in it.
use Rattle.std.specs.Prelude.{ℕ, Option, Some, None, ◌&&◌, if◌then◌else◌, List, [], ◌∷◌, ℤ, pos}
use Rattle.std.specs.declared.cmp.Ordering.{Ordering}
use Rattle.std.specs.declared.cmp.Ordering.TheVariants.{Less, Equal, Greater}
use Rattle.std.specs.Ordering.{int_eq}
use Rattle.rx_poly.specs.Normal.{is_empty, is_number}
use Rattle.rx_poly.specs.Order.{mono_cmp}
use Rattle.rx_poly.specs.declared.body.Atom.{Atom, Atom-F, out-Atom}
use Rattle.rx_poly.specs.declared.body.Body.{Body}
use Rattle.rx_poly.specs.declared.body.Mono.{Mono, out-Mono}

-- the number that a sum is, where it is one
abbrev pub constant_of : List (Mono × ℤ) → Option ℤ
constant_of [] = Some (pos 0)
constant_of (t ∷ ts) = if is_number (t ∷ ts) then Some t.1 else None

-- the variable that an atom is, where it is one
abbrev pub variable_of_atom : Atom-F Atom Body Mono → Option ℕ
variable_of_atom (Atom-F.Var n) = Some n
variable_of_atom (Atom-F.Div p q) = None
variable_of_atom (Atom-F.Mod p q) = None

-- the variable that a product of atoms is, where it is one
abbrev pub variable_of_atoms : List Atom → Option ℕ
variable_of_atoms [] = None
variable_of_atoms (x ∷ xs) = if is_empty xs then variable_of_atom (out-Atom x) else None

-- the variable that a sum is, where it is one
abbrev pub variable_of : List (Mono × ℤ) → Option ℕ
variable_of [] = None
variable_of (t ∷ ts) =
    if is_empty ts && int_eq t.1 (pos 1) then variable_of_atoms (out-Mono t.0).atoms else None

-- the coefficient of a term, or what is found later, by how the monomial compares to that of the
-- term
abbrev pub found : Ordering → ℤ → ℤ → ℤ
found Less c further = further
found Equal c further = c
found Greater c further = further

-- the coefficient of the monomial, 0 where it has none
abbrev pub coefficient : Mono → List (Mono × ℤ) → ℤ
coefficient k [] = pos 0
coefficient k (t ∷ ts) = found (mono_cmp k t.0) t.1 (coefficient k ts)
