-- The variables of rows: those of their polynomials, at every level.
use Rattle.std.specs.Prelude.{ℕ, Bool, List}
use Rattle.std.specs.List.{list_all}
use Rattle.rx_poly.specs.Limits.{greatest}
use Rattle.rx_poly.specs.Variables.{uses_below, variable_bound}
use Rattle.rx_row.specs.Parts.{poly_of}
use Rattle.rx_row.specs.declared.row.Row.{Row}

-- all variables of the row are below the number
abbrev pub row_uses_below : ℕ → Row → Bool
row_uses_below n row = uses_below n (poly_of row)

-- all variables of the rows are
abbrev pub rows_use_below : ℕ → List Row → Bool
rows_use_below n rows = list_all (λ row. uses_below n (poly_of row)) rows

-- the least number above all variables of the row
abbrev pub row_bound : Row → ℕ
row_bound row = variable_bound (poly_of row)

-- above all variables of the rows
abbrev pub rows_bound : List Row → ℕ
rows_bound rows = greatest row_bound rows
