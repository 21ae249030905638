-- What the division facts say holds of every dividend: of one that is at least 0, or of one below.
use Rattle.std.proofs.Common.{◌≡◌, ◌∙◌, ap, subst, sym, cond, ℕ, zero, suc, ◌<◌, Bool, true, false, List, [], ◌∷◌, ◌++◌, ℤ, pos, negsuc, ◌+ℤ◌, ◌-ℤ◌, ◌*ℤ◌, ◌≤ℤ◌, int_div, int_rem, unsigned_abs, arith}
use mathlib.Core.Logic.{inl, inr}
use Rattle.std.proofs.lemmas.Int.{ints, quot-rem, rem_below}
use Rattle.std.proofs.lemmas.List.Elements.{All-append, All-cons, All-nil}
use lib.IntN.{*ℤ_comm}
use Rattle.rx_poly.proofs.Constants.{value-number}
use Rattle.rx_poly.proofs.DivisionLaws.{value-quotient_of, value-remainder_of}
use Rattle.rx_poly.proofs.PolyLaws.{value-body_sum, value-scaled_by, value-body_difference}
use Rattle.rx_poly.specs.Constants.{number}
use Rattle.rx_poly.specs.Limits.{body_sum, scaled_by, body_difference}
use Rattle.rx_poly.specs.Terms.{is_zero}
use Rattle.rx_poly.specs.Value.{quotient, remainder, value}
use Rattle.rx_poly.specs.declared.body.Body.{Body}
use Rattle.rx_row.proofs.RowLaws.{holds_or_not, value-minus_one_more}
use Rattle.rx_row.specs.Holds.{AllHold, RowHolds}
use Rattle.rx_row.specs.Negation.{minus_one_more, negation, opposite}
use Rattle.rx_row.specs.declared.row.Row.{Row}
use Rattle.rx_row.specs.declared.row.Row.TheVariants.{Ge, Eq}
use Rattle.rx_cert.specs.DivisionFacts.{at_least_zero_within, below_zero_within, greatest_remainder, nothing_left, quotient_by, remainder_by, rows_at_least_zero, rows_below_zero, without_quotient}
use Rattle.rx_cert.specs.Findings.{Said, Yes, No, and_also, guard}
use Rattle.rx_cert.proofs.FindingLaws.{both_parts, within_parts}

-- ---- numbers

-- a number that isn't 0 has a size
size_positive : (d : ℤ) → is_zero d ≡ false → 0 < unsigned_abs d
size_positive (pos zero) e = cc
size_positive (pos (suc n)) e = omega arith
size_positive (negsuc n) e = omega arith

-- a remainder of at least 0 is below the size of the divisor, and so is one of at most 0 without
-- its sign
fits_above : (r s w : ℤ) (n : ℕ) → unsigned_abs r < n → s ≡ pos n -ℤ pos 1 → w ≡ s -ℤ r → pos 0 ≤ℤ w
fits_above (pos k) s w n h e f = omega (arith, ints)
fits_above (negsuc k) s w n h e f = omega (arith, ints)

fits_below : (r s w : ℤ) (n : ℕ) → unsigned_abs r < n → s ≡ pos n -ℤ pos 1 → w ≡ s +ℤ r → pos 0 ≤ℤ w
fits_below (pos k) s w n h e f = omega (arith, ints)
fits_below (negsuc k) s w n h e f = omega (arith, ints)

-- the remainder has the sign of the dividend
remainder_above : (z d : ℤ) → pos 0 ≤ℤ z → pos 0 ≤ℤ int_rem z d
remainder_above (pos n) d h = omega (arith, ints)
remainder_above (negsuc n) d h = absurd (omega (arith, ints))

remainder_below : (z d : ℤ) → z ≤ℤ negsuc 0 → int_rem z d ≤ℤ pos 0
remainder_below (pos n) d h = absurd (omega (arith, ints))
remainder_below (negsuc n) d h = omega (arith, ints)

turned : (z w : ℤ) → w ≡ negsuc 0 *ℤ z → z ≤ℤ pos 0 → pos 0 ≤ℤ w
turned z w e h = omega (arith, ints)

below_from : (z w : ℤ) → w ≡ (negsuc 0 *ℤ z) -ℤ pos 1 → pos 0 ≤ℤ w → z ≤ℤ negsuc 0
below_from z w e h = omega (arith, ints)

-- ---- values

module _ (a : ℕ → ℤ) (num : Body) (d : ℤ) (nonzero : is_zero d ≡ false) where
  value-quotient_by : value a (quotient_by num d) ≡ int_div (value a num) d
  value-quotient_by =
      value-quotient_of a num (number d) ∙ ap (quotient (value a num)) (value-number a d)
      ∙ ap (λ b. cond b (pos 0) (int_div (value a num) d)) nonzero

  value-remainder_by : value a (remainder_by num d) ≡ int_rem (value a num) d
  value-remainder_by =
      value-remainder_of a num (number d) ∙ ap (remainder (value a num)) (value-number a d)
      ∙ ap (λ b. cond b (pos 0) (int_rem (value a num) d)) nonzero

  value-nothing_left : value a (nothing_left num d) ≡ pos 0
  value-nothing_left =
      let v = value a num in
      let product : value a (scaled_by d (quotient_by num d)) ≡ d *ℤ int_div v d =
      value-scaled_by a d (quotient_by num d) ∙ ap (λ z. d *ℤ z) value-quotient_by in
      let first : value a (without_quotient num d) ≡ v -ℤ (d *ℤ int_div v d) =
      value-body_difference a num (scaled_by d (quotient_by num d)) ∙ ap (λ z. v -ℤ z) product in
      let second : value a (nothing_left num d) ≡ (v -ℤ (d *ℤ int_div v d)) -ℤ int_rem v d =
      value-body_difference a (without_quotient num d) (remainder_by num d) ∙
      (λ i. first i -ℤ value-remainder_by i) in
      second ∙ nothing v (d *ℤ int_div v d) (int_rem v d)
      (ap (λ z. z +ℤ int_rem v d) (*ℤ_comm d (int_div v d)) ∙ quot-rem v d)
    where
      nothing : (v p r : ℤ) → p +ℤ r ≡ v → (v -ℤ p) -ℤ r ≡ pos 0
      nothing v p r e = omega (arith, ints)

  value-greatest_remainder : value a (greatest_remainder d) ≡ pos (unsigned_abs d) -ℤ pos 1
  value-greatest_remainder = value-number a (pos (unsigned_abs d) -ℤ pos 1)

  remainder_small : unsigned_abs (value a (remainder_by num d)) < unsigned_abs d
  remainder_small =
      subst (λ z. unsigned_abs z < unsigned_abs d) (sym value-remainder_by)
      (rem_below (value a num) d (size_positive d nonzero))

  four_hold : (p q r s : Row) → RowHolds a p → RowHolds a q → RowHolds a r → RowHolds a s →
      AllHold a (p ∷ q ∷ r ∷ s ∷ [])
  four_hold p q r s h g k l =
      All-cons (RowHolds a) p (q ∷ r ∷ s ∷ []) h
      (All-cons (RowHolds a) q (r ∷ s ∷ []) g
      (All-cons (RowHolds a) r (s ∷ []) k
      (All-cons (RowHolds a) s [] l (All-nil (RowHolds a)))))

  -- the facts of a dividend of at least 0
  at_least_zero_hold : RowHolds a (Ge num) → AllHold a (rows_at_least_zero num d)
  at_least_zero_hold h =
      let r = remainder_by num d in
      four_hold (Ge num) (Eq (nothing_left num d)) (Ge r)
      (Ge (body_difference (greatest_remainder d) r))
      h value-nothing_left
      (subst (λ z. pos 0 ≤ℤ z) (sym value-remainder_by) (remainder_above (value a num) d h))
      (fits_above (value a r) (value a (greatest_remainder d))
      (value a (body_difference (greatest_remainder d) r)) (unsigned_abs d) remainder_small
      value-greatest_remainder (value-body_difference a (greatest_remainder d) r))

  -- the facts of one below
  below_zero_hold : RowHolds a (negation (Ge num)) → value a num ≤ℤ negsuc 0 →
      AllHold a (rows_below_zero num d)
  below_zero_hold h below =
      let r = remainder_by num d in
      four_hold (negation (Ge num)) (Eq (nothing_left num d)) (Ge (opposite r))
      (Ge (body_sum (greatest_remainder d) r)) h value-nothing_left
      (turned (value a r) (value a (opposite r)) (value-scaled_by a (negsuc 0) r)
      (subst (λ z. z ≤ℤ pos 0) (sym value-remainder_by)
      (remainder_below (value a num) d below)))
      (fits_below (value a r) (value a (greatest_remainder d))
      (value a (body_sum (greatest_remainder d) r)) (unsigned_abs d) remainder_small
      value-greatest_remainder (value-body_sum a (greatest_remainder d) r))

-- so where both cases are refuted, so are the rows
pub division_refutes : (a : ℕ → ℤ) (rows : List Row) (num : Body) (d : ℤ)
    (above below : List Row → Said) →
    ((rs : List Row) → above rs ≡ Yes → AllHold a rs → ⊥) →
    ((rs : List Row) → below rs ≡ Yes → AllHold a rs → ⊥) →
    (b : Bool) → is_zero d ≡ b →
    cond b No (and_also (guard (at_least_zero_within num d)
    (above (rows ++ rows_at_least_zero num d)))
    (guard (below_zero_within num d) (below (rows ++ rows_below_zero num d)))) ≡ Yes →
    AllHold a rows → ⊥
division_refutes a rows num d above below f g true is e holds = cc
division_refutes a rows num d above below f g false is e holds =
    let parts = both_parts (guard (at_least_zero_within num d)
    (above (rows ++ rows_at_least_zero num d)))
    (guard (below_zero_within num d) (below (rows ++ rows_below_zero num d))) e in
    let first = within_parts (at_least_zero_within num d) (above (rows ++ rows_at_least_zero num d))
    parts.0 in
    let second = within_parts (below_zero_within num d) (below (rows ++ rows_below_zero num d))
    parts.1 in
    elim (holds_or_not a (Ge num)) [
      | inl h ↦ f (rows ++ rows_at_least_zero num d) first.1
          (All-append (RowHolds a) rows (rows_at_least_zero num d) holds
          (at_least_zero_hold a num d is h))
      | inr h ↦ g (rows ++ rows_below_zero num d) second.1
          (All-append (RowHolds a) rows (rows_below_zero num d) holds
          (below_zero_hold a num d is h (below_from (value a num) (value a (minus_one_more num))
          (value-minus_one_more a num) h)))
    ]
