-- Numbers as text: decimal, without leading zero, a `-` in front of those below 0.
use Rattle.std.specs.Prelude.{ℕ, suc, Bool, true, false, not, ◌&&◌, nat_le, List, ◌∷◌, ℤ, pos, negsuc, decimal}
use Rattle.rx_poly.specs.Limits.{fits_i128}
use Rattle.rx_text.specs.Formats.{Format}

-- `0` to `9`
abbrev pub is_digit : ℕ → Bool
is_digit byte = nat_le 48 byte && nat_le byte 57

-- the digits of a natural number
abbrev pub natural_text : ℕ → List ℕ
natural_text n = decimal n

-- the digits of an integer, after `-` where it is below 0
abbrev pub integer_text : ℤ → List ℕ
integer_text (pos n) = natural_text n
integer_text (negsuc n) = 45 ∷ natural_text (suc n)

-- natural numbers of at most this; a digit would go on with one
abbrev pub naturals : ℕ → Format ℕ
naturals most = record { text = natural_text; in_range = λ n. nat_le n most; goes_on = is_digit }

-- integers of i128
abbrev pub integers : Format ℤ
integers = record { text = integer_text; in_range = fits_i128; goes_on = is_digit }

-- ---- the two kinds of integers

-- at least 0
abbrev pub is_from_zero : ℤ → Bool
is_from_zero (pos n) = true
is_from_zero (negsuc n) = false

-- the digits of the distance from 0
abbrev pub size_text : ℤ → List ℕ
size_text (pos n) = natural_text n
size_text (negsuc n) = natural_text (suc n)

-- integers of i128 from 0 on
abbrev pub integers_from_zero : Format ℤ
integers_from_zero = record {
  text = size_text;
  in_range = λ z. is_from_zero z && fits_i128 z;
  goes_on = is_digit;
}

-- integers of i128 below 0, without their sign
abbrev pub sizes_below_zero : Format ℤ
sizes_below_zero = record {
  text = size_text;
  in_range = λ z. not (is_from_zero z) && fits_i128 z;
  goes_on = is_digit;
}
