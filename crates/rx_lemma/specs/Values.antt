-- Rows that only give a variable its value.
use Rattle.std.specs.Prelude.{Bool, true, false, not, ◌&&◌, if◌then◌else◌, List, [], ◌∷◌, filter, ℤ}
use Rattle.std.specs.Option.{is_some}
use Rattle.rx_poly.specs.Normal.{is_empty}
use Rattle.rx_poly.specs.Reading.{variable_of}
use Rattle.rx_poly.specs.declared.body.Body.{Body, out-Body}
use Rattle.rx_poly.specs.declared.body.Mono.{Mono, out-Mono}
use Rattle.rx_row.specs.declared.row.Row.{Row}
use Rattle.rx_row.specs.declared.row.Row.TheVariants.{Ge, Eq, Ne}

-- the term is no number
abbrev pub is_no_number : Mono × ℤ → Bool
is_no_number t = not (is_empty (out-Mono t.0).atoms)

-- without its constant the polynomial is a variable
unfoldable pub is_valued : Body → Bool
is_valued p = is_some (variable_of (filter is_no_number (out-Body p).terms))

-- the same term by term: whether a variable was seen, and what comes then
abbrev pub valued_from : Bool → List (Mono × ℤ) → Bool
valued_from seen [] = seen
valued_from seen (t ∷ ts) =
    if is_no_number t then (not seen && is_some (variable_of (t ∷ []))) && valued_from true ts else
    valued_from seen ts

-- the row says that a variable is a number
abbrev pub gives_value : Row → Bool
gives_value (Ge p) = false
gives_value (Eq p) = is_valued p
gives_value (Ne p) = false

-- the rows that don't
abbrev pub other_rows : List Row → List Row
other_rows rows = filter (λ r. not (gives_value r)) rows
