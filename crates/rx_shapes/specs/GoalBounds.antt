-- Rows that may hold at all goals of a shape, since they hold at the first one: its inequalities and
-- disequalities that speak of nothing but variables that stand alone at places of it.
use Rattle.std.specs.Prelude.{ℕ, suc, Bool, true, false, ◌&&◌, Option, Some, None, if◌then◌else◌, List, [], ◌∷◌, ◌++◌, map}
use Rattle.std.specs.List.{list_all}
use Rattle.rx_plain.specs.Formed.{Formed, pure, fold_formed}
use Rattle.rx_poly.specs.Constants.{variable}
use Rattle.rx_poly.specs.Variables.{is_one_of, variables}
use Rattle.rx_poly.specs.declared.body.Body.{Body}
use Rattle.rx_row.specs.Parts.{poly_of}
use Rattle.rx_row.specs.Substitution.{pushed_with}
use Rattle.rx_row.specs.declared.row.Row.{Row}
use Rattle.rx_term.specs.declared.rule.Equation.{Equation}
use Rattle.rx_lemma.specs.Calls.{lone_variable}
use Rattle.rx_shapes.specs.Places.{places_of}

-- ---- the variables that stand alone at places

-- the variables that have a place
abbrev pub placed : List (ℕ × Body) → List ℕ
placed ws = map (λ (w : ℕ × Body). w.0) ws

-- a variable has its first place alone
abbrev pub with_place : ℕ → List (ℕ × Body) → Option ℕ → List (ℕ × Body)
with_place x ws None = ws
with_place x ws (Some v) =
    if is_one_of v (placed ws) then ws else ws ++ (v, variable x) ∷ []

-- each variable that is alone at a place, with the variable of its first place; places are numbered
-- on from x
abbrev pub places_from : ℕ → List (ℕ × Body) → List Body → List (ℕ × Body)
places_from x ws [] = ws
places_from x ws (p ∷ ps) = places_from (suc x) (with_place x ws (lone_variable p)) ps

-- ---- the rows

-- an equation says a value, which relations say too
abbrev pub is_bound : Row → Bool
is_bound (Row.Ge p) = true
is_bound (Row.Eq p) = false
is_bound (Row.Ne p) = true

-- all its variables have a place
abbrev pub is_of_places : List (ℕ × Body) → Row → Bool
is_of_places ws row =
    is_bound row && list_all (λ v. is_one_of v (placed ws)) (variables (poly_of row))

-- the row, said of the places
abbrev pub with_bound : List (ℕ × Body) → List Row → Row → Formed (List Row)
with_bound ws rows row =
    if is_of_places ws row then pushed_with rows ws row else pure rows

abbrev pub goal_bounds : Equation → Formed (List Row)
goal_bounds e = fold_formed (with_bound (places_from 0 [] (places_of e))) [] e.rows
