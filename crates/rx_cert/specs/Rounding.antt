-- A sum of rows that is divided by a number and rounded down, coefficient by coefficient. The
-- number divides all but the constant exactly.
use Rattle.std.specs.Prelude.{ℕ, Bool, true, ◌&&◌, ◌||◌, if◌then◌else◌, Option, Some, None, List, [], ◌∷◌, ℤ, pos, int_lt}
use Rattle.std.specs.Int.{int_div_euclid, int_rem_euclid}
use Rattle.rx_plain.specs.Formed.{Formed}
use Rattle.rx_poly.specs.Limits.{of_terms}
use Rattle.rx_poly.specs.Normal.{is_empty}
use Rattle.rx_poly.specs.Terms.{is_zero, cons_nonzero}
use Rattle.rx_poly.specs.declared.body.Mono.{Mono, out-Mono}
use Rattle.rx_poly.specs.declared.body.Body.{Body, out-Body}
use Rattle.rx_row.specs.Parts.{parts_within, sum_of}
use Rattle.rx_row.specs.declared.row.Row.{Row}
use Rattle.rx_row.specs.declared.row.Row.TheVariants.{Ge}

-- the number is a multiple of the divisor: no remainder is left
abbrev pub divides : ℤ → ℤ → Bool
divides d c = is_zero (int_rem_euclid c d)

-- the monomial without atoms, whose coefficient is the constant
abbrev pub is_one : Mono → Bool
is_one m = is_empty (out-Mono m).atoms

-- each coefficient but the constant is a multiple of the divisor; in a normal form the constant is
-- the last of the terms
abbrev pub divides_terms : ℤ → List (Mono × ℤ) → Bool
divides_terms d [] = true
divides_terms d (t ∷ []) = is_one t.0 || divides d t.1
divides_terms d (t ∷ u ∷ us) = divides d t.1 && divides_terms d (u ∷ us)

-- each coefficient divided by a divisor of at least 1, and rounded down; what is 0 then is left out
abbrev pub rounded_terms : ℤ → List (Mono × ℤ) → List (Mono × ℤ)
rounded_terms d [] = []
rounded_terms d (t ∷ ts) = cons_nonzero t.0 (int_div_euclid t.1 d) (rounded_terms d ts)

abbrev pub rounded : ℤ → Body → Body
rounded d p = of_terms (rounded_terms d (out-Body p).terms)

-- the divisor is at least 1 and divides each coefficient but the constant
abbrev pub can_be_rounded_by : ℤ → Body → Bool
can_be_rounded_by d p = int_lt (pos 0) d && divides_terms d (out-Body p).terms

-- the row that says that the rounded sum is at least 0, where there is such a sum
abbrev pub rounding_row : ℤ → Option Body → Option Row
rounding_row d None = None
rounding_row d (Some p) = if can_be_rounded_by d p then Some (Ge (rounded d p)) else None

-- the row of a rounded sum of parts, and whether all on the way to the sum keeps the limits
abbrev pub rounding_formed : ℤ → List Row → List (ℕ × ℤ) → Formed (Option Row)
rounding_formed d rows ps =
    record { form = rounding_row d (sum_of rows ps); within = parts_within rows ps }
