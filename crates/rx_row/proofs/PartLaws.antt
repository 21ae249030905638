-- Lawful parts of rows that hold have a sum whose value is at least 0.
use Rattle.std.proofs.Common.{◌≡◌, ◌∙◌, ap, subst, refl, ℕ, true, ◌&&◌, nat_le, ◌+◌, List, [], ◌∷◌, Option, Some, None, slice_get, ℤ, pos, negsuc, ◌+ℤ◌, ◌*ℤ◌, ◌≤ℤ◌, int_lt, arith}
use Rattle.std.proofs.lemmas.Int.{ints}
use Rattle.std.proofs.lemmas.Bool.{and_parts}
use Rattle.std.proofs.lemmas.Option.{get_or_from_slice_get, slice_get_within}
use Rattle.rx_plain.proofs.Integers.{mul-zero-int}
use Rattle.rx_poly.proofs.Constants.{value-number}
use Rattle.rx_poly.proofs.PolyLaws.{value-body_sum, value-scaled_by}
use Rattle.rx_poly.specs.Limits.{body_sum, scaled_by}
use Rattle.rx_poly.specs.Constants.{number}
use Rattle.rx_poly.specs.Value.{value}
use Rattle.rx_poly.specs.declared.body.Body.{Body}
use Rattle.rx_row.specs.Holds.{AllHold, RowHolds}
use Rattle.rx_row.specs.Parts.{are_lawful, is_taken, lawful_from, poly_of, sum_from, takes, with_multiple}
use Rattle.rx_row.specs.declared.row.Row.{Row}
use Rattle.rx_row.specs.declared.row.Row.TheVariants.{Ge, Eq, Ne}

-- a positive multiple of a number that is at least 0 is at least 0
positive_multiple : (by z : ℤ) → int_lt (pos 0) by ≡ true → pos 0 ≤ℤ z → pos 0 ≤ℤ (by *ℤ z)
positive_multiple (pos m) (pos n) h g = omega (arith, ints)
positive_multiple (pos m) (negsuc n) h g = absurd (omega (arith, ints))
positive_multiple (negsuc m) z h g = cc

-- what a row takes has a value of at least 0 where the row holds
pub taken_multiple : (a : ℕ → ℤ) (row : Row) (by : ℤ) → takes row by ≡ true → RowHolds a row →
    pos 0 ≤ℤ (by *ℤ value a (poly_of row))
taken_multiple a (Ge p) by h g = positive_multiple by (value a p) h g
taken_multiple a (Eq p) by h g =
    let e : by *ℤ value a p ≡ pos 0 = ap (λ z. by *ℤ z) g ∙ mul-zero-int by in
    omega (arith, ints)
taken_multiple a (Ne p) by h g = cc

-- so a sum of at least 0 stays one
sum_step : (a : ℕ → ℤ) (rows : List Row) (at : ℕ) (by : ℤ) (sum : Body) (row : Option Row) →
    slice_get rows at ≡ row → is_taken row by ≡ true → AllHold a rows → pos 0 ≤ℤ value a sum →
    pos 0 ≤ℤ value a (with_multiple sum row by)
sum_step a rows at by sum None is h holds g = g
sum_step a rows at by sum (Some row) is h holds g =
    let here : RowHolds a row = subst (RowHolds a) (get_or_from_slice_get rows at row row is)
    (holds at row (slice_get_within rows at row is)) in
    let more = taken_multiple a row by h here in
    let e : value a (body_sum sum (scaled_by by (poly_of row))) ≡
    value a sum +ℤ (by *ℤ value a (poly_of row)) =
    value-body_sum a sum (scaled_by by (poly_of row)) ∙
    (λ i. value a sum +ℤ value-scaled_by a by (poly_of row) i) in
    omega (arith, ints)

pub sum_from-holds : (a : ℕ → ℤ) (rows : List Row) (from : ℕ) (ps : List (ℕ × ℤ)) (sum : Body) →
    lawful_from from rows ps ≡ true → AllHold a rows → pos 0 ≤ℤ value a sum →
    pos 0 ≤ℤ value a (sum_from sum rows ps)
sum_from-holds a rows from [] sum h holds g = g
sum_from-holds a rows from (p ∷ ps) sum h holds g =
    let q = and_parts (nat_le from p.0) (is_taken (slice_get rows p.0) p.1 &&
    lawful_from (p.0 + 1) rows ps) h in
    let r = and_parts (is_taken (slice_get rows p.0) p.1) (lawful_from (p.0 + 1) rows ps) q.1 in
    sum_from-holds a rows (p.0 + 1) ps (with_multiple sum (slice_get rows p.0) p.1) r.1 holds
    (sum_step a rows p.0 p.1 sum (slice_get rows p.0) refl r.0 holds g)

-- lawful parts of rows that hold have a sum whose value is at least 0
pub lawful_sum : (a : ℕ → ℤ) (rows : List Row) (ps : List (ℕ × ℤ)) → are_lawful rows ps ≡ true →
    AllHold a rows → pos 0 ≤ℤ value a (sum_from (number (pos 0)) rows ps)
lawful_sum a rows ps h holds =
    let e = value-number a (pos 0) in
    sum_from-holds a rows 0 ps (number (pos 0)) h holds (omega (arith, ints))
