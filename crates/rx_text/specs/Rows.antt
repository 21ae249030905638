-- Rows as text: `ge:P`, `eq:P`, `ne:P`.
use Rattle.std.specs.Prelude.{ℕ, Bool, List, ◌++◌, codes}
use Rattle.rx_row.specs.Parts.{poly_of}
use Rattle.rx_row.specs.declared.row.Row.{Row}
use Rattle.rx_row.specs.declared.row.Row.TheVariants.{Ge, Eq, Ne}
use Rattle.rx_text.specs.Formats.{Format}
use Rattle.rx_text.specs.Polynomials.{goes_on_with_poly, is_readable_poly, poly_text}

-- what is said of the polynomial
abbrev pub row_word : Row → List ℕ
row_word (Ge p) = codes "ge:"
row_word (Eq p) = codes "eq:"
row_word (Ne p) = codes "ne:"

-- the text of a row
abbrev pub row_text : Row → List ℕ
row_text row = row_word row ++ poly_text (poly_of row)

-- rows that have a text: those of such polynomials
abbrev pub is_readable_row : Row → Bool
is_readable_row row = is_readable_poly (poly_of row)

-- the text of rows
abbrev pub row_format : Format Row
row_format = record { text = row_text; in_range = is_readable_row; goes_on = goes_on_with_poly }
