-- Variables that are set, each to a polynomial, in the order of their numbers.
use Rattle.std.specs.Prelude.{ℕ, suc, nat_le, ◌==◌, Bool, if◌then◌else◌, List, [], ◌∷◌}
use Rattle.std.specs.List.{list_any}
use Rattle.rx_poly.specs.declared.body.Body.{Body}

-- the variable is set
abbrev pub is_set : List (ℕ × Body) → ℕ → Bool
is_set ws x = list_any (λ (w : ℕ × Body). w.0 == x) ws

-- the variable is set to the polynomial
abbrev pub set_to : ℕ → Body → List (ℕ × Body) → List (ℕ × Body)
set_to x p [] = (x, p) ∷ []
set_to x p (w ∷ ws) = if nat_le x w.0 then (x, p) ∷ w ∷ ws else w ∷ set_to x p ws

-- so unless it is set already
abbrev pub set_once : ℕ → Body → List (ℕ × Body) → List (ℕ × Body)
set_once x p ws = if is_set ws x then ws else set_to x p ws

-- how many of the first settings are of lower numbers
abbrev pub place_for : ℕ → List (ℕ × Body) → ℕ
place_for x [] = 0
place_for x (w ∷ ws) = if nat_le x w.0 then 0 else suc (place_for x ws)
