-- Polynomials substituted for variables in rows: the rows, and whether all that is formed on the
-- way keeps the limits.
use Rattle.std.specs.Prelude.{ℕ, Bool, List, [], ◌∷◌, ◌++◌, map}
use Rattle.std.specs.List.{list_all}
use Rattle.rx_plain.specs.Formed.{Formed, ◌<$>◌}
use Rattle.rx_poly.specs.Substitution.{subst_body}
use Rattle.rx_poly.specs.declared.body.Body.{Body}
use Rattle.rx_row.specs.Parts.{poly_of}
use Rattle.rx_row.specs.declared.row.Row.{Row}
use Rattle.rx_row.specs.declared.row.Row.TheVariants.{Ge, Eq, Ne}

-- the same is said of the polynomial with the others in place of their variables
abbrev pub subst_row : List (ℕ × Body) → Row → Row
subst_row ws (Ge p) = Ge (subst_body ws p).form
subst_row ws (Eq p) = Eq (subst_body ws p).form
subst_row ws (Ne p) = Ne (subst_body ws p).form

abbrev pub row_within : List (ℕ × Body) → Row → Bool
row_within ws row = (subst_body ws (poly_of row)).within

-- as many rows in the same order
abbrev pub subst_rows : List (ℕ × Body) → List Row → List Row
subst_rows ws rows = map (subst_row ws) rows

abbrev pub rows_within : List (ℕ × Body) → List Row → Bool
rows_within ws rows = list_all (row_within ws) rows

-- both at once: of one row
abbrev pub row_with : List (ℕ × Body) → Row → Formed Row
row_with ws row = record { form = subst_row ws row; within = row_within ws row }

-- of a row after others that are formed
abbrev pub pushed_with : List Row → List (ℕ × Body) → Row → Formed (List Row)
pushed_with done ws row = (λ r. done ++ r ∷ []) <$> row_with ws row

-- of all rows of a list
abbrev pub rows_with : List (ℕ × Body) → List Row → Formed (List Row)
rows_with ws rows = record { form = subst_rows ws rows; within = rows_within ws rows }
