-- What is known of a dividend, its quotient q and its remainder r by a number that isn't 0,
-- truncated toward zero; a is the divisor without its sign.
use Rattle.std.specs.Prelude.{Bool, ◌&&◌, List, [], ◌∷◌, ℤ, pos, ◌-ℤ◌, unsigned_abs}
use Rattle.rx_plain.specs.Formed.{Formed}
use Rattle.rx_poly.specs.Constants.{number}
use Rattle.rx_poly.specs.Division.{quotient_of, remainder_of}
use Rattle.rx_poly.specs.Limits.{body_sum, fits_i128, is_within, scaled_by, body_difference}
use Rattle.rx_poly.specs.declared.body.Body.{Body}
use Rattle.rx_row.specs.Negation.{negation, negation_within, opposite}
use Rattle.rx_row.specs.declared.row.Row.{Row}
use Rattle.rx_row.specs.declared.row.Row.TheVariants.{Ge, Eq}

-- q and r, as normal forms
abbrev pub quotient_by : Body → ℤ → Body
quotient_by dividend divisor = quotient_of dividend (number divisor)

abbrev pub remainder_by : Body → ℤ → Body
remainder_by dividend divisor = remainder_of dividend (number divisor)

-- dividend - divisor*q - r, from left to right
abbrev pub without_quotient : Body → ℤ → Body
without_quotient dividend divisor =
    body_difference dividend (scaled_by divisor (quotient_by dividend divisor))

abbrev pub nothing_left : Body → ℤ → Body
nothing_left dividend divisor =
    body_difference (without_quotient dividend divisor) (remainder_by dividend divisor)

-- a - 1
abbrev pub greatest_remainder : ℤ → Body
greatest_remainder divisor = number (pos (unsigned_abs divisor) -ℤ pos 1)

-- with whether a is a number of i128
abbrev pub greatest_remainder_formed : ℤ → Formed Body
greatest_remainder_formed divisor = record {
  form = greatest_remainder divisor;
  within = fits_i128 (pos (unsigned_abs divisor));
}

-- with whether q and divisor*q keep the limits too
abbrev pub without_quotient_formed : Body → ℤ → Formed Body
without_quotient_formed dividend divisor = record {
  form = without_quotient dividend divisor;
  within =
      is_within (quotient_by dividend divisor) &&
      (is_within (scaled_by divisor (quotient_by dividend divisor))
      && is_within (without_quotient dividend divisor));
}

-- r, q, divisor*q, dividend - divisor*q, dividend - divisor*q - r and a keep the limits
abbrev pub division_within : Body → ℤ → Bool
division_within dividend divisor =
    is_within (remainder_by dividend divisor) &&
    ((without_quotient_formed dividend divisor).within &&
    (is_within (nothing_left dividend divisor) && fits_i128 (pos (unsigned_abs divisor))))

-- what a division leaves: dividend - divisor*q - r, r and a - 1, and whether all on the way keeps
-- the limits
abbrev pub division_formed : Body → ℤ → Formed (Body × Body × Body)
division_formed dividend divisor = record {
  form = (nothing_left dividend divisor, remainder_by dividend divisor, greatest_remainder divisor);
  within = division_within dividend divisor;
}

-- where the dividend is at least 0: dividend >= 0, dividend - divisor*q - r = 0, r >= 0, a - 1 - r
-- >= 0
abbrev pub rows_at_least_zero : Body → ℤ → List Row
rows_at_least_zero dividend divisor =
    Ge dividend ∷ Eq (nothing_left dividend divisor) ∷ Ge (remainder_by dividend divisor) ∷
    Ge (body_difference (greatest_remainder divisor) (remainder_by dividend divisor)) ∷ []

abbrev pub at_least_zero_within : Body → ℤ → Bool
at_least_zero_within dividend divisor =
    division_within dividend divisor && is_within
    (body_difference (greatest_remainder divisor) (remainder_by dividend divisor))

-- where it is below: -dividend - 1 >= 0, dividend - divisor*q - r = 0, -r >= 0, a - 1 + r >= 0
abbrev pub rows_below_zero : Body → ℤ → List Row
rows_below_zero dividend divisor =
    negation (Ge dividend) ∷ Eq (nothing_left dividend divisor) ∷
    Ge (opposite (remainder_by dividend divisor)) ∷
    Ge (body_sum (greatest_remainder divisor) (remainder_by dividend divisor)) ∷ []

abbrev pub below_zero_within : Body → ℤ → Bool
below_zero_within dividend divisor =
    negation_within (Ge dividend) && (division_within dividend divisor &&
    (is_within (opposite (remainder_by dividend divisor)) &&
    is_within (body_sum (greatest_remainder divisor) (remainder_by dividend divisor))))

-- the same rows of a division whose parts are formed, and whether what is formed of them keeps the
-- limits: where the dividend is at least 0
abbrev pub facts_at_least_zero : Body → Body → Body → Body → Formed (List Row)
facts_at_least_zero dividend equation rest bound = record {
  form = Ge dividend ∷ Eq equation ∷ Ge rest ∷ Ge (body_difference bound rest) ∷ [];
  within = is_within (body_difference bound rest);
}

-- where it is below
abbrev pub facts_below_zero : Body → Body → Body → Body → Formed (List Row)
facts_below_zero dividend equation rest bound = record {
  form = negation (Ge dividend) ∷ Eq equation ∷ Ge (opposite rest) ∷ Ge (body_sum bound rest) ∷ [];
  within =
      negation_within (Ge dividend) && (is_within (opposite rest) &&
      is_within (body_sum bound rest));
}
