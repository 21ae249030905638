-- Rows and substitutions as words.
use Rattle.std.specs.Prelude.{ℕ, List}
use Rattle.rx_poly.specs.declared.body.Body.{Body}
use Rattle.rx_row.specs.declared.row.Row.{Row}
use Rattle.rx_text.specs.Formats.{Format}
use Rattle.rx_text.specs.Polynomials.{polynomials}
use Rattle.rx_text.specs.Rows.{row_format}
use Rattle.rx_words.specs.Words.{counted, pairs, variables, word}

-- how many rows, and each of them
abbrev pub row_lists : Format (List Row)
row_lists = counted (word row_format)

-- how many variables are replaced, then for each its number and the polynomial in its place
abbrev pub substitutions : Format (List (ℕ × Body))
substitutions = counted (pairs variables (word polynomials))
