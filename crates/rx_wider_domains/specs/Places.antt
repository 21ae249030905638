-- The places of variables among arguments: the variable that is an argument alone has the number of
-- that argument for its place, and its first one where it is several.
use Rattle.std.specs.Prelude.{ℕ, ◌+◌, Bool, Option, Some, None, List, [], ◌∷◌, ◌++◌, map}
use Rattle.std.specs.List.{list_all}
use Rattle.rx_poly.specs.Constants.{variable}
use Rattle.rx_poly.specs.Reading.{variable_of}
use Rattle.rx_poly.specs.Variables.{is_one_of, variables}
use Rattle.rx_poly.specs.declared.body.Body.{Body, out-Body}

-- a variable, with that of the argument that it is
abbrev pub placed_at : ℕ → Option ℕ → List (ℕ × Body)
placed_at i None = []
placed_at i (Some v) = (v, variable i) ∷ []

-- those of the arguments, the first having that number; what is in place of a variable is the first
-- that is listed for it
abbrev pub places_from : ℕ → List Body → List (ℕ × Body)
places_from i [] = []
places_from i (p ∷ ps) = placed_at i (variable_of (out-Body p).terms) ++ places_from (i + 1) ps

abbrev pub places : List Body → List (ℕ × Body)
places ps = places_from 0 ps

-- the variables that have a place
abbrev pub placed : List (ℕ × Body) → List ℕ
placed ws = map (λ (w : ℕ × Body). w.0) ws

-- each variable of the polynomial has one
abbrev pub is_placed : List (ℕ × Body) → Body → Bool
is_placed ws p = list_all (λ v. is_one_of v (placed ws)) (variables p)
