-- Decimal numbers in words of the command line.
use Rattle.std.specs.Prelude.{ℕ, Bool, false, not, ◌&&◌, ◌==◌, nat_le, if◌then◌else◌, Option, Some, None, List, [], ◌∷◌}
use Rattle.std.specs.Str.{all_ascii_digits}
use Rattle.std.specs.Str.Parse.{digits_value}

-- one decimal digit or more, with no 0 in front of others
abbrev pub is_decimal : List ℕ → Bool
is_decimal [] = false
is_decimal (d ∷ []) = all_ascii_digits (d ∷ [])
is_decimal (d ∷ e ∷ ds) = not (d == 48) && all_ascii_digits (d ∷ e ∷ ds)

-- the number that the text is, where it lies between these
abbrev pub number_of : ℕ → ℕ → List ℕ → Option ℕ
number_of least most text =
    let n = digits_value 10 text in
    if is_decimal text && (nat_le least n && nat_le n most) then Some n else None
