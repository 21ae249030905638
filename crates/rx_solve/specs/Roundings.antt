-- Which rows are rounded, and by what: by the content, the greatest common divisor of the
-- coefficients without the constant, where it is above 1.
use Rattle.std.specs.Prelude.{ℕ, zero, suc, ◌-◌, nat_lt, Bool, true, if◌then◌else◌, List, [], ◌∷◌, ◌++◌, length, take, ℤ, pos, negsuc}
use Rattle.std.specs.List.{list_all}
use Rattle.rx_plain.specs.Formed.{Formed}
use Rattle.rx_row.specs.Parts.{poly_of}
use Rattle.rx_row.specs.declared.row.Row.{Row}
use Rattle.rx_row.specs.declared.row.Row.TheVariants.{Ge, Eq, Ne}
use Rattle.rx_fm.specs.Content.{content, variable_coefficients}
use Rattle.rx_fm.specs.Numbers.{sizes_fit}
use Rattle.rx_solve.specs.Bounds.{most_roundings}
use Rattle.rx_solve.specs.declared.roundings.Rounding.{Rounding}

-- ---- the roundings

-- with a divisor those of a row, number i: one of an inequality, two of an equation, none of a
-- disequality
abbrev pub roundings_with : ℤ → ℕ → Row → List Rounding
roundings_with d i (Ge p) = record { at = i; by = pos 1; divisor = d } ∷ []
roundings_with d i (Eq p) =
    record { at = i; by = pos 1; divisor = d } ∷ record { at = i; by = negsuc 0; divisor = d } ∷ []
roundings_with d i (Ne p) = []

-- those of a row, where its content is above 1
abbrev pub roundings_of : ℕ → Row → List Rounding
roundings_of i row =
    if nat_lt 1 (content (poly_of row)) then roundings_with (pos (content (poly_of row))) i row else
    []

-- those of the rows, the first being number i
abbrev pub roundings_from : ℕ → List Row → List Rounding
roundings_from i [] = []
roundings_from i (row ∷ rows) = roundings_of i row ++ roundings_from (suc i) rows

-- the first of the rows
abbrev pub roundings : List Row → List Rounding
roundings rows = take most_roundings (roundings_from 0 rows)

-- ---- the limits

-- the rows that are looked at for n roundings: up to the row that makes n of them
abbrev pub looked_at : ℕ → List Row → List Row
looked_at zero rows = []
looked_at (suc n) [] = []
looked_at (suc n) (row ∷ rows) = row ∷ looked_at (suc n - length (roundings_of 0 row)) rows

-- the sizes of the coefficients without the constant are numbers of i128; of a disequality nothing
-- is asked
abbrev pub has_sizes : Row → Bool
has_sizes (Ge p) = sizes_fit (variable_coefficients p)
has_sizes (Eq p) = sizes_fit (variable_coefficients p)
has_sizes (Ne p) = true

-- the rows that are looked at have such sizes
abbrev pub roundings_within : List Row → Bool
roundings_within rows = list_all has_sizes (looked_at most_roundings rows)

-- ---- both at once

-- after others, of row number i
abbrev pub roundings_after : List Rounding → ℕ → Row → Formed (List Rounding)
roundings_after done i row = record { form = done ++ roundings_of i row; within = has_sizes row }

-- the first of the rows
abbrev pub roundings_formed : List Row → Formed (List Rounding)
roundings_formed rows = record { form = roundings rows; within = roundings_within rows }
