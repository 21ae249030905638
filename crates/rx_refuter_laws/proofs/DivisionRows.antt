-- What is known of a division of a polynomial by a number are rows of polynomials.
use Rattle.std.proofs.Common.{◌≡◌, ◌∙◌, ap, refl, ℕ, zero, suc, true, ◌&&◌, ℤ, pos, negsuc, ◌-ℤ◌, ◌^◌, unsigned_abs, arith}
use Rattle.std.proofs.lemmas.Int.{ints}
use Rattle.std.proofs.lemmas.Bool.{and_from, and_parts, lt-ltb, ltb-true}
use Rattle.rx_poly.specs.Constants.{number}
use Rattle.rx_poly.specs.Limits.{body_difference, body_sum, fits_i128, is_within, scaled_by}
use Rattle.rx_poly.specs.Normal.{is_poly}
use Rattle.rx_poly.specs.declared.body.Body.{Body}
use Rattle.rx_row.specs.Negation.{minus_one_more, minus_one_more_within, negation_within, opposite}
use Rattle.rx_row.specs.declared.row.Row.TheVariants.{Ge}
use Rattle.rx_cert.specs.DivisionFacts.{at_least_zero_within, below_zero_within, division_within, greatest_remainder, nothing_left, quotient_by, remainder_by, rows_at_least_zero, rows_below_zero, without_quotient, without_quotient_formed}
use Rattle.rx_refuter_laws.specs.Leaves.{have_polys}
use Rattle.rx_refuter_laws.proofs.Polynomials.{difference_poly, fitting_number_poly, multiple_poly, quotient_poly, remainder_poly, sum_poly}

-- -p - 1 of a polynomial is one
pub less_one_more_poly : (p : Body) → is_poly p ≡ true → minus_one_more_within p ≡ true →
    is_poly (minus_one_more p) ≡ true
less_one_more_poly p h w =
    let parts = and_parts (is_within (opposite p)) (is_within (minus_one_more p)) w in
    difference_poly (opposite p) (number (pos 1)) (multiple_poly (negsuc 0) p h parts.0)
    (fitting_number_poly (pos 1) refl) parts.1

-- a number without its sign fits only where the number does, and one less then fits too
fits_with_sign : (d : ℤ) → fits_i128 (pos (unsigned_abs d)) ≡ true → fits_i128 d ≡ true
fits_with_sign (pos n) h = h
fits_with_sign (negsuc n) h =
    let below = ltb-true (suc n) (2 ^ 127) h in lt-ltb n (2 ^ 127) (omega (arith, below))

one_less_fits : (d : ℤ) → fits_i128 (pos (unsigned_abs d)) ≡ true →
    fits_i128 (pos (unsigned_abs d) -ℤ pos 1) ≡ true
one_less_fits d h = by (unsigned_abs d) h
  where
    by : (n : ℕ) → fits_i128 (pos n) ≡ true → fits_i128 (pos n -ℤ pos 1) ≡ true
    by zero g = refl
    by (suc n) g =
        let below = ltb-true (suc n) (2 ^ 127) g in
        let same : pos (suc n) -ℤ pos 1 ≡ pos n = omega (arith, ints) in
        ap fits_i128 same ∙ lt-ltb n (2 ^ 127) (omega (arith, below))

module _ (num : Body) (d : ℤ) (h : is_poly num ≡ true) where
  -- what a division leaves are polynomials
  record LeftPolys : Type 0 where
    rest : is_poly (remainder_by num d) ≡ true
    equation : is_poly (nothing_left num d) ≡ true
    bound : is_poly (greatest_remainder d) ≡ true

  left_polys : division_within num d ≡ true → LeftPolys
  left_polys w =
      let a = and_parts (is_within (remainder_by num d))
      ((without_quotient_formed num d).within &&
      (is_within (nothing_left num d) && fits_i128 (pos (unsigned_abs d)))) w in
      let b = and_parts (without_quotient_formed num d).within
      (is_within (nothing_left num d) && fits_i128 (pos (unsigned_abs d))) a.1 in
      let c = and_parts (is_within (nothing_left num d)) (fits_i128 (pos (unsigned_abs d))) b.1 in
      let q = and_parts (is_within (quotient_by num d))
      (is_within (scaled_by d (quotient_by num d)) && is_within (without_quotient num d)) b.0 in
      let s = and_parts (is_within (scaled_by d (quotient_by num d)))
      (is_within (without_quotient num d)) q.1 in
      let divisor = fitting_number_poly d (fits_with_sign d c.1) in
      let rest = remainder_poly num (number d) h divisor a.0 in
      let quotient = quotient_poly num (number d) h divisor q.0 in
      let without = difference_poly num (scaled_by d (quotient_by num d)) h
      (multiple_poly d (quotient_by num d) quotient s.0) s.1 in
      record {
        rest = rest;
        equation = difference_poly (without_quotient num d) (remainder_by num d) without rest c.0;
        bound = fitting_number_poly (pos (unsigned_abs d) -ℤ pos 1) (one_less_fits d c.1);
      }

  pub at_least_zero_polys : at_least_zero_within num d ≡ true →
      have_polys (rows_at_least_zero num d) ≡ true
  at_least_zero_polys w =
      let bound = body_difference (greatest_remainder d) (remainder_by num d) in
      let parts = and_parts (division_within num d) (is_within bound) w in
      let left = left_polys parts.0 in
      let last = difference_poly (greatest_remainder d) (remainder_by num d) left.bound left.rest
      parts.1 in
      and_from (is_poly num) (is_poly (nothing_left num d) && (is_poly (remainder_by num d) &&
      (is_poly bound && true))) h
      (and_from (is_poly (nothing_left num d)) (is_poly (remainder_by num d) &&
      (is_poly bound && true)) left.equation
      (and_from (is_poly (remainder_by num d)) (is_poly bound && true) left.rest
      (and_from (is_poly bound) true last refl)))

  pub below_zero_polys : below_zero_within num d ≡ true →
      have_polys (rows_below_zero num d) ≡ true
  below_zero_polys w =
      let turned = opposite (remainder_by num d) in
      let bound = body_sum (greatest_remainder d) (remainder_by num d) in
      let a = and_parts (negation_within (Ge num))
      (division_within num d && (is_within turned && is_within bound)) w in
      let b = and_parts (division_within num d) (is_within turned && is_within bound) a.1 in
      let c = and_parts (is_within turned) (is_within bound) b.1 in
      let left = left_polys b.0 in
      let first = less_one_more_poly num h a.0 in
      let third = multiple_poly (negsuc 0) (remainder_by num d) left.rest c.0 in
      let last = sum_poly (greatest_remainder d) (remainder_by num d) left.bound left.rest c.1 in
      and_from (is_poly (minus_one_more num)) (is_poly (nothing_left num d) &&
      (is_poly turned && (is_poly bound && true))) first
      (and_from (is_poly (nothing_left num d)) (is_poly turned && (is_poly bound && true))
      left.equation
      (and_from (is_poly turned) (is_poly bound && true) third
      (and_from (is_poly bound) true last refl)))
