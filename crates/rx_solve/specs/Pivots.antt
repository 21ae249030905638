-- Which rows say the value of a variable, and of which: p = 0, or p >= 0 with -p >= 0 after it.
use Rattle.std.specs.Prelude.{ℕ, suc, Bool, false, Option, Some, None, if◌then◌else◌, List, [], ◌∷◌, ℤ, option_and_then}
use Rattle.std.specs.Option.{is_some, option_map, option_or}
use Rattle.std.specs.List.{filter_map, find}
use Rattle.rx_poly.specs.Reading.{variable_of_atoms}
use Rattle.rx_poly.specs.declared.body.Mono.{Mono, out-Mono}
use Rattle.rx_poly.specs.declared.body.Body.{Body, out-Body}
use Rattle.rx_row.specs.declared.row.Row.{Row}
use Rattle.rx_row.specs.declared.row.Row.TheVariants.{Ge, Eq, Ne}
use Rattle.rx_cert.specs.Elimination.{are_opposite, solution}
use Rattle.rx_solve.specs.declared.pivots.Pivot.{Pivot}

-- ---- which variable

-- the variables that are monomials of p, in order; in a normal form they rise
abbrev pub lone_variables : Body → List ℕ
lone_variables p =
    filter_map (λ (t : Mono × ℤ). variable_of_atoms (out-Mono t.0).atoms) (out-Body p).terms

-- the first of them that p = 0 says the value of: so the least
abbrev pub least_solvable : Body → Option ℕ
least_solvable p = find (λ x. is_some (solution x p)) (lone_variables p)

-- the variable, where p = 0 says its value
abbrev pub value_said : Body → Option ℕ → Option ℕ
value_said p None = None
value_said p (Some x) = if is_some (solution x p) then Some x else None

-- the least of these terms' variables that p = 0 says the value of
abbrev pub least_of : Body → List (Mono × ℤ) → Option ℕ
least_of p ts =
    find (λ x. is_some (solution x p)) (filter_map
    (λ (t : Mono × ℤ). variable_of_atoms (out-Mono t.0).atoms) ts)

-- ---- which rows

-- the row is q >= 0, with the coefficients of q opposite to those of p
abbrev pub is_opposite_row : Body → Row → Bool
is_opposite_row p (Ge q) = are_opposite (out-Body p).terms (out-Body q).terms
is_opposite_row p (Eq q) = false
is_opposite_row p (Ne q) = false

-- whether the row says that -p is at least 0: then its number, else that of a later one
abbrev pub number_if_opposite : Body → Row → Option ℕ → Option ℕ → Option ℕ
number_if_opposite p (Ge q) here later =
    if are_opposite (out-Body p).terms (out-Body q).terms then here else later
number_if_opposite p (Eq q) here later = later
number_if_opposite p (Ne q) here later = later

-- the number of the first of the rows that says so, where the first is number i
abbrev pub opposite_from : ℕ → Body → List Row → Option ℕ
opposite_from i p [] = None
opposite_from i p (row ∷ rows) = number_if_opposite p row (Some i) (opposite_from (suc i) p rows)

-- the row, number i: an equation alone, an inequality with its opposite among the later rows
abbrev pub pivot_at : ℕ → Row → List Row → Option Pivot
pivot_at i (Ge p) later =
    option_and_then (λ x. option_map (λ j. record { first = i; second = j; variable = x })
    (opposite_from (suc i) p later)) (least_solvable p)
pivot_at i (Eq p) later =
    option_map (λ x. record { first = i; second = i; variable = x }) (least_solvable p)
pivot_at i (Ne p) later = None

-- the first row that says the value of a variable
abbrev pub pivot_from : ℕ → List Row → Option Pivot
pivot_from i [] = None
pivot_from i (row ∷ rows) = option_or (pivot_at i row rows) (pivot_from (suc i) rows)

abbrev pub first_pivot : List Row → Option Pivot
first_pivot rows = pivot_from 0 rows
