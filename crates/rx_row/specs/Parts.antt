-- Sums of multiples of rows. A part is the number of a row, counted from 0, with a multiplier.
use Rattle.std.specs.Prelude.{ℕ, ◌+◌, nat_le, Bool, true, false, not, ◌&&◌, if◌then◌else◌, Option, Some, None, List, [], ◌∷◌, slice_get, ℤ, pos, int_lt}
use Rattle.rx_plain.specs.Formed.{Formed}
use Rattle.rx_poly.specs.Limits.{body_sum, is_within, scaled_by}
use Rattle.rx_poly.specs.Constants.{number}
use Rattle.rx_poly.specs.Terms.{is_zero}
use Rattle.rx_poly.specs.declared.body.Body.{Body}
use Rattle.rx_row.specs.declared.row.Row.{Row}
use Rattle.rx_row.specs.declared.row.Row.TheVariants.{Ge, Eq, Ne}

-- the polynomial of a row
abbrev pub poly_of : Row → Body
poly_of (Ge p) = p
poly_of (Eq p) = p
poly_of (Ne p) = p

-- an inequality takes positive multipliers, an equation takes all but 0, a disequality takes none
abbrev pub takes : Row → ℤ → Bool
takes (Ge p) by = int_lt (pos 0) by
takes (Eq p) by = not (is_zero by)
takes (Ne p) by = false

-- there is such a row, and it takes the multiplier
abbrev pub is_taken : Option Row → ℤ → Bool
is_taken None by = false
is_taken (Some row) by = takes row by

-- the parts are lawful: each row is there and takes its multiplier, and the numbers rise, the first
-- being at least `from`
abbrev pub lawful_from : ℕ → List Row → List (ℕ × ℤ) → Bool
lawful_from from rows [] = true
lawful_from from rows (p ∷ ps) =
    nat_le from p.0 && (is_taken (slice_get rows p.0) p.1 && lawful_from (p.0 + 1) rows ps)

abbrev pub are_lawful : List Row → List (ℕ × ℤ) → Bool
are_lawful rows ps = lawful_from 0 rows ps

-- a sum that a row's polynomial times the multiplier is added to; a missing row adds nothing
abbrev pub with_multiple : Body → Option Row → ℤ → Body
with_multiple sum None by = sum
with_multiple sum (Some row) by = body_sum sum (scaled_by by (poly_of row))

-- the multiple, and the sum with it, keep the limits
abbrev pub multiple_within : Body → Option Row → ℤ → Bool
multiple_within sum None by = true
multiple_within sum (Some row) by =
    is_within (scaled_by by (poly_of row)) && is_within (body_sum sum (scaled_by by (poly_of row)))

-- a sum to which each part adds its multiple, in order
abbrev pub sum_from : Body → List Row → List (ℕ × ℤ) → Body
sum_from sum rows [] = sum
sum_from sum rows (p ∷ ps) = sum_from (with_multiple sum (slice_get rows p.0) p.1) rows ps

-- each multiple, and the sum after it, keeps the limits
abbrev pub sum_within : Body → List Row → List (ℕ × ℤ) → Bool
sum_within sum rows [] = true
sum_within sum rows (p ∷ ps) =
    multiple_within sum (slice_get rows p.0) p.1 &&
    sum_within (with_multiple sum (slice_get rows p.0) p.1) rows ps

-- the sum of the parts, where all of them are lawful
abbrev pub sum_of : List Row → List (ℕ × ℤ) → Option Body
sum_of rows ps = if are_lawful rows ps then Some (sum_from (number (pos 0)) rows ps) else None

-- parts that are not all lawful are not summed; otherwise all that is formed keeps the limits
abbrev pub parts_within : List Row → List (ℕ × ℤ) → Bool
parts_within rows ps = if are_lawful rows ps then sum_within (number (pos 0)) rows ps else true

-- both at once: of one multiple
abbrev pub multiple_formed : Body → Option Row → ℤ → Formed Body
multiple_formed sum row by =
    record { form = with_multiple sum row by; within = multiple_within sum row by }

-- of the sum
abbrev pub sum_formed : Body → List Row → List (ℕ × ℤ) → Formed Body
sum_formed sum rows ps = record { form = sum_from sum rows ps; within = sum_within sum rows ps }

-- and of the sum of lawful parts
abbrev pub parts_formed : List Row → List (ℕ × ℤ) → Formed (Option Body)
parts_formed rows ps = record { form = sum_of rows ps; within = parts_within rows ps }
