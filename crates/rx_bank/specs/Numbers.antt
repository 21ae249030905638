-- Lists of polynomials in which the place of each is its number.
use Rattle.std.specs.Prelude.{◌≡◌, ℕ, Some, List, slice_get}
use Rattle.rx_poly.specs.declared.body.Body.{Body}

-- no polynomial has two places
abbrev pub AreDistinct : List Body → Type 0
AreDistinct ps = (i j : ℕ) (p : Body) → slice_get ps i ≡ Some p → slice_get ps j ≡ Some p → i ≡ j

-- each number that a polynomial has in the old list it has in the new one
abbrev pub KeepsNumbers : List Body → List Body → Type 0
KeepsNumbers old new = (i : ℕ) (p : Body) → slice_get old i ≡ Some p → slice_get new i ≡ Some p
