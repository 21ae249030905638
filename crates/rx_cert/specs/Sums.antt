-- A sum of rows refutes them where its parts are lawful and it is a negative number.
use Rattle.std.specs.Prelude.{ℕ, Bool, false, Option, Some, None, List, ℤ, pos, int_lt}
use Rattle.rx_poly.specs.Reading.{constant_of}
use Rattle.rx_poly.specs.declared.body.Body.{Body, out-Body}
use Rattle.rx_row.specs.Parts.{parts_within, sum_of}
use Rattle.rx_row.specs.declared.row.Row.{Row}
use Rattle.rx_cert.specs.Findings.{Said, said, guard}

-- there is a number, and it is negative
abbrev pub is_below_zero : Option ℤ → Bool
is_below_zero None = false
is_below_zero (Some k) = int_lt k (pos 0)

-- there is a sum, and it is a negative number
abbrev pub is_negative : Option Body → Bool
is_negative None = false
is_negative (Some p) = is_below_zero (constant_of (out-Body p).terms)

-- the parts are lawful and their sum is a negative number
abbrev pub sum_finding : List Row → List (ℕ × ℤ) → Said
sum_finding rows parts = guard (parts_within rows parts) (said (is_negative (sum_of rows parts)))
