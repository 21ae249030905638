-- Polynomials by symbol.
use Rattle.std.specs.Prelude.{ℕ, zero, suc, Option, Some, None, List, [], ◌∷◌, map, slice_get, slice_set, option_and_then}
use Rattle.rx_poly.specs.declared.body.Body.{Body}
use denote.Ref.{Bor}

-- that of the symbol, if it has one
abbrev pub polynomial_of : List (Option Body) → ℕ → Option Body
polynomial_of values f = option_and_then (λ value. value) (slice_get values f)

-- those with one more
abbrev pub with_polynomial : List (Option Body) → ℕ → Body → List (Option Body)
with_polynomial values f p = slice_set values f (Some p)

-- those with one for each of the symbols
abbrev pub with_choice : List (Option Body) → List ℕ → List Body → List (Option Body)
with_choice values [] ps = values
with_choice values (f ∷ fs) [] = values
with_choice values (f ∷ fs) (p ∷ ps) = with_choice (with_polynomial values f p) fs ps

-- none
abbrev pub without_polynomials : ℕ → List (Option Body)
without_polynomials zero = []
without_polynomials (suc n) = None ∷ without_polynomials n

-- those that are borrowed
abbrev pub polys_at : List (Bor Body) → List Body
polys_at refs = map (λ (r : Bor Body). r.now) refs
