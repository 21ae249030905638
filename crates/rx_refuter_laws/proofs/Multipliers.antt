-- Multipliers that the elimination finds make a lawful sum of rows, which is a negative number.
use Rattle.std.proofs.Common.{◌≡◌, ◌∙◌, ap, subst, sym, refl, cond, ℕ, zero, suc, ◌+◌, ◌≤◌, nat_le, length, Bool, true, false, ◌&&◌, All, Option, Some, None, List, [], ◌∷◌, slice_get, ℤ, pos, negsuc, ◌+ℤ◌, ◌-ℤ◌, ◌*ℤ◌, ◌≤ℤ◌, ◌<ℤ◌, int_lt, arith}
use Rattle.std.proofs.lemmas.Int.{ints}
use Rattle.std.proofs.lemmas.Bool.{and_from, and_parts, not_from_false}
use Rattle.std.proofs.lemmas.List.Elements.{All-head, All-tail}
use Rattle.std.proofs.lemmas.List.Folds.{list_all-append}
use Rattle.std.specs.List.{list_all}
use lib.IntN.{*ℤ_comm}
use Rattle.rx_plain.proofs.Integers.{mul-add-int, mul-assoc-int, mul-zero-int}
use Rattle.rx_poly.specs.Constants.{number}
use Rattle.rx_poly.specs.Limits.{body_sum, is_within, scaled_by}
use Rattle.rx_poly.specs.Normal.{is_poly}
use Rattle.rx_poly.specs.Reading.{coefficient, constant_of}
use Rattle.rx_poly.specs.Terms.{is_zero}
use Rattle.rx_poly.specs.declared.body.Body.{Body, out-Body}
use Rattle.rx_poly.specs.declared.body.Mono.{Mono}
use Rattle.rx_poly.proofs.Levels.{terms-of_terms}
use Rattle.rx_poly.proofs.PolyLaws.{poly_terms}
use Rattle.rx_poly.proofs.TermLaws.{zero_is}
use Rattle.rx_poly_laws.proofs.SumCoefficients.{coefficient-body_sum, coefficient-scaled_by}
use Rattle.rx_row.specs.Negation.{opposite}
use Rattle.rx_row.specs.Parts.{are_lawful, is_taken, lawful_from, multiple_within, parts_within, poly_of, sum_from, sum_of, sum_within, takes, with_multiple}
use Rattle.rx_row.specs.declared.row.Row.{Row}
use Rattle.rx_row.specs.declared.row.Row.TheVariants.{Eq, Ge, Ne}
use Rattle.rx_fm.specs.Elimination.{elimination, found}
use Rattle.rx_fm.specs.Witness.{IsWitness, one, total}
use Rattle.rx_fm.proofs.Coefficients.{numeral, only_number}
use Rattle.rx_fm.proofs.Tracking.{witness}
use Rattle.rx_cert.specs.Sums.{is_below_zero, is_negative}
use Rattle.rx_solve.specs.Sums.{all_nonnegative, nonnegative, opposite_within, parts_from, with_part}
use Rattle.rx_refuter_laws.specs.Leaves.{has_poly, have_polys}
use Rattle.rx_refuter_laws.proofs.Places.{StandsFrom, first_there, from_beginning, others_there}
use Rattle.rx_refuter_laws.proofs.Polynomials.{fitting_number_poly, multiple_poly, sum_poly}

-- ---- what the rows say to be at least 0

own_polys : (row : Row) → has_poly row ≡ true → opposite_within row ≡ true →
    list_all is_poly (nonnegative row) ≡ true
own_polys (Ge p) h w = and_from (is_poly p) true h refl
own_polys (Eq p) h w =
    and_from (is_poly p) (is_poly (opposite p) && true) h
    (and_from (is_poly (opposite p)) true (multiple_poly (negsuc 0) p h w) refl)
own_polys (Ne p) h w = refl

pub nonnegative_polys : (rows : List Row) → have_polys rows ≡ true →
    list_all opposite_within rows ≡ true → list_all is_poly (all_nonnegative rows) ≡ true
nonnegative_polys [] h w = refl
nonnegative_polys (row ∷ rows) h w =
    let p = and_parts (has_poly row) (have_polys rows) h in
    let q = and_parts (opposite_within row) (list_all opposite_within rows) w in
    list_all-append is_poly (nonnegative row) (all_nonnegative rows)
    ∙ and_from (list_all is_poly (nonnegative row)) (list_all is_poly (all_nonnegative rows))
    (own_polys row p.0 q.0) (nonnegative_polys rows p.1 q.1)

-- ---- the parts are lawful

abbrev NotNegative : List ℤ → Type 0
NotNegative ms = All (λ m. pos 0 ≤ℤ m) ms

module _ (rows : List Row) where
  -- parts that are lawful from wherever the numbers before them end
  abbrev LawfulAfter : ℕ → List (ℕ × ℤ) → Type 0
  LawfulAfter i ps = (from : ℕ) → from ≤ i → lawful_from from rows ps ≡ true

  part_lawful : (i : ℕ) (row : Row) (k : ℤ) (ps : List (ℕ × ℤ)) → slice_get rows i ≡ Some row →
      (is_zero k ≡ false → takes row k ≡ true) → LawfulAfter (suc i) ps →
      LawfulAfter i (with_part i k ps)
  part_lawful i row k ps there taken rest from h = by (is_zero k) refl
    where
      by : (b : Bool) → is_zero k ≡ b → lawful_from from rows (cond b ps ((i, k) ∷ ps)) ≡ true
      by true z = rest from (omega (arith, h))
      by false z =
          let first : nat_le from i ≡ true = grind (arith, h) in
          and_from (nat_le from i)
          (is_taken (slice_get rows i) k && lawful_from (i + 1) rows ps) first
          (and_from (is_taken (slice_get rows i) k) (lawful_from (i + 1) rows ps)
          (ap (λ o. is_taken o k) there ∙ taken z) (rest (i + 1) (omega arith)))

  positive_taken : (k : ℤ) → pos 0 ≤ℤ k → is_zero k ≡ false → int_lt (pos 0) k ≡ true
  positive_taken (pos zero) h z = cc
  positive_taken (pos (suc n)) h z = grind (arith, ints)
  positive_taken (negsuc n) h z = absurd (omega (arith, ints, h))

  lawful_parts : (i : ℕ) (rest : List Row) (ms : List ℤ) → StandsFrom rows i rest →
      length ms ≡ length (all_nonnegative rest) → NotNegative ms →
      LawfulAfter i (parts_from i rest ms)
  lawful_parts i [] ms s e n = λ from h. refl
  lawful_parts i (Ge p ∷ rest) [] s e n = absurd (omega (arith, e))
  lawful_parts i (Ge p ∷ rest) (m ∷ ms) s e n =
      part_lawful i (Ge p) m (parts_from (suc i) rest ms) (first_there rows i (Ge p) rest s)
      (positive_taken m (All-head (λ z. pos 0 ≤ℤ z) m ms n))
      (lawful_parts (suc i) rest ms (others_there rows i (Ge p) rest s) (omega (arith, e))
      (All-tail (λ z. pos 0 ≤ℤ z) m ms n))
  lawful_parts i (Eq p ∷ rest) [] s e n = absurd (omega (arith, e))
  lawful_parts i (Eq p ∷ rest) (m ∷ []) s e n = absurd (omega (arith, e))
  lawful_parts i (Eq p ∷ rest) (m ∷ l ∷ ms) s e n =
      part_lawful i (Eq p) (m -ℤ l) (parts_from (suc i) rest ms)
      (first_there rows i (Eq p) rest s) (not_from_false (is_zero (m -ℤ l)))
      (lawful_parts (suc i) rest ms (others_there rows i (Eq p) rest s) (omega (arith, e))
      (All-tail (λ z. pos 0 ≤ℤ z) l ms (All-tail (λ z. pos 0 ≤ℤ z) m (l ∷ ms) n)))
  lawful_parts i (Ne p ∷ rest) ms s e n =
      part_lawful i (Ne p) (pos 0) (parts_from (suc i) rest ms)
      (first_there rows i (Ne p) rest s) (λ z. cc)
      (lawful_parts (suc i) rest ms (others_there rows i (Ne p) rest s) e n)

-- ---- the coefficients of the sum

-- the coefficient of x in a polynomial
abbrev of_mono : Mono → Body → ℤ
of_mono x p = coefficient x (out-Body p).terms

module _ (rows : List Row) where
  -- the sum of parts after another: a polynomial, with that much more of each monomial
  record Adds (sum : Body) (ps : List (ℕ × ℤ)) (more : Mono → ℤ) : Type 0 where
    poly : is_poly (sum_from sum rows ps) ≡ true
    each : (x : Mono) → of_mono x (sum_from sum rows ps) ≡ of_mono x sum +ℤ more x

  -- after each sum within the limits
  abbrev AddsAlways : List (ℕ × ℤ) → (Mono → ℤ) → Type 0
  AddsAlways ps more =
      (sum : Body) → is_poly sum ≡ true → sum_within sum rows ps ≡ true → Adds sum ps more

  same_more : (ps : List (ℕ × ℤ)) (more other : Mono → ℤ) → ((x : Mono) → more x ≡ other x) →
      AddsAlways ps more → AddsAlways ps other
  same_more ps more other e a sum h w =
      let s = a sum h w in
      record { poly = s.poly; each = λ x. s.each x ∙ ap (λ z. of_mono x sum +ℤ z) (e x) }

  -- a part adds its multiple
  module _ (i : ℕ) (row : Row) (k : ℤ) (ps : List (ℕ × ℤ)) (more : Mono → ℤ)
      (there : slice_get rows i ≡ Some row) (poly : has_poly row ≡ true) (rest : AddsAlways ps more)
      (sum : Body) (h : is_poly sum ≡ true) where
    abbrev multiple : Body
    multiple = scaled_by k (poly_of row)

    abbrev next : Body
    next = with_multiple sum (slice_get rows i) k

    abbrev with_own : Mono → ℤ
    with_own x = of_mono x (poly_of row) *ℤ k +ℤ more x

    next_is : next ≡ body_sum sum multiple
    next_is = ap (λ o. with_multiple sum o k) there

    none_added : is_zero k ≡ true → sum_within sum rows ps ≡ true → Adds sum ps with_own
    none_added z w =
        let s = rest sum h w in
        let none = zero_is k z in
        record {
          poly = s.poly;
          each =
              λ x. let zero = ap (λ c. of_mono x (poly_of row) *ℤ c) none ∙
              mul-zero-int (of_mono x (poly_of row)) in
              let each = s.each x in
              omega (arith, ints, zero, each);
        }

    limits_kept : (multiple_within sum (slice_get rows i) k && sum_within next rows ps) ≡ true →
        (is_within multiple ≡ true) × (is_within (body_sum sum multiple) ≡ true) ×
        (sum_within next rows ps ≡ true)
    limits_kept w =
        let a = and_parts (multiple_within sum (slice_get rows i) k) (sum_within next rows ps) w in
        let b = and_parts (is_within multiple) (is_within (body_sum sum multiple))
        (ap (λ o. multiple_within sum o k) (sym there) ∙ a.0) in
        (b.0, b.1, a.1)

    one_added : (multiple_within sum (slice_get rows i) k && sum_within next rows ps) ≡ true →
        Adds sum ((i, k) ∷ ps) with_own
    one_added w =
        let limits = limits_kept w in
        let scaled = multiple_poly k (poly_of row) poly limits.0 in
        let summed = sum_poly sum multiple h scaled limits.1 in
        let s = rest next (ap is_poly next_is ∙ summed) limits.2 in
        record {
          poly = s.poly;
          each =
              λ x. let each = s.each x ∙ ap (λ p. of_mono x p +ℤ more x) next_is in
              let two = coefficient-body_sum x sum multiple h scaled in
              let own = coefficient-scaled_by x k (poly_of row) poly in
              omega (arith, ints, each, two, own);
        }

    by_zero : (b : Bool) → is_zero k ≡ b → sum_within sum rows (cond b ps ((i, k) ∷ ps)) ≡ true →
        Adds sum (cond b ps ((i, k) ∷ ps)) with_own
    by_zero true z = none_added z
    by_zero false z = one_added

    part_adds : sum_within sum rows (with_part i k ps) ≡ true → Adds sum (with_part i k ps) with_own
    part_adds = by_zero (is_zero k) refl

  -- two multipliers of an equation add what their difference does
  both_signs : (c m l t : ℤ) → c *ℤ (m -ℤ l) +ℤ t ≡ m *ℤ c +ℤ (l *ℤ (c *ℤ negsuc 0) +ℤ t)
  both_signs c m l t =
      let whole : m -ℤ l +ℤ l ≡ m = omega (arith, ints) in
      let split = sym (mul-add-int c (m -ℤ l) l) ∙ ap (λ z. c *ℤ z) whole in
      let first = *ℤ_comm c m in
      let second = *ℤ_comm c l in
      let turned = sym (mul-assoc-int l c (negsuc 0)) in
      omega (arith, ints, split, first, second, turned)

  parts_add : (i : ℕ) (rest : List Row) (ms : List ℤ) → StandsFrom rows i rest → have_polys rest ≡
      true → length ms ≡ length (all_nonnegative rest) →
      AddsAlways (parts_from i rest ms) (λ x. total x (all_nonnegative rest) ms)
  parts_add i [] ms s h e = λ sum g w. record { poly = g; each = λ x. omega (arith, ints) }
  parts_add i (Ge p ∷ rest) [] s h e = absurd (omega (arith, e))
  parts_add i (Ge p ∷ rest) (m ∷ ms) s h e =
      let parts = and_parts (is_poly p) (have_polys rest) h in
      let ps = parts_from (suc i) rest ms in
      let later = parts_add (suc i) rest ms (others_there rows i (Ge p) rest s) parts.1
      (omega (arith, e)) in
      same_more (with_part i m ps)
      (λ x. of_mono x p *ℤ m +ℤ total x (all_nonnegative rest) ms)
      (λ x. total x (p ∷ all_nonnegative rest) (m ∷ ms))
      (λ x. ap (λ z. z +ℤ total x (all_nonnegative rest) ms) (*ℤ_comm (of_mono x p) m))
      (part_adds i (Ge p) m ps (λ x. total x (all_nonnegative rest) ms)
      (first_there rows i (Ge p) rest s) parts.0 later)
  parts_add i (Eq p ∷ rest) [] s h e = absurd (omega (arith, e))
  parts_add i (Eq p ∷ rest) (m ∷ []) s h e = absurd (omega (arith, e))
  parts_add i (Eq p ∷ rest) (m ∷ l ∷ ms) s h e =
      let parts = and_parts (is_poly p) (have_polys rest) h in
      let ps = parts_from (suc i) rest ms in
      let later = parts_add (suc i) rest ms (others_there rows i (Eq p) rest s) parts.1
      (omega (arith, e)) in
      same_more (with_part i (m -ℤ l) ps)
      (λ x. of_mono x p *ℤ (m -ℤ l) +ℤ total x (all_nonnegative rest) ms)
      (λ x. total x (p ∷ opposite p ∷ all_nonnegative rest) (m ∷ l ∷ ms))
      (λ x. both_signs (of_mono x p) m l (total x (all_nonnegative rest) ms)
      ∙ ap (λ z. m *ℤ of_mono x p +ℤ (l *ℤ z +ℤ total x (all_nonnegative rest) ms))
      (sym (coefficient-scaled_by x (negsuc 0) p parts.0)))
      (part_adds i (Eq p) (m -ℤ l) ps (λ x. total x (all_nonnegative rest) ms)
      (first_there rows i (Eq p) rest s) parts.0 later)
  parts_add i (Ne p ∷ rest) ms s h e =
      let parts = and_parts (is_poly p) (have_polys rest) h in
      let ps = parts_from (suc i) rest ms in
      let later = parts_add (suc i) rest ms (others_there rows i (Ne p) rest s) parts.1 e in
      same_more (with_part i (pos 0) ps)
      (λ x. of_mono x p *ℤ pos 0 +ℤ total x (all_nonnegative rest) ms)
      (λ x. total x (all_nonnegative rest) ms)
      (λ x. let none = mul-zero-int (of_mono x p) in omega (arith, ints, none))
      (part_adds i (Ne p) (pos 0) ps (λ x. total x (all_nonnegative rest) ms)
      (first_there rows i (Ne p) rest s) parts.0 later)

-- ---- the sum is a negative number

below_zero : (o : Option ℤ) (k : ℤ) → o ≡ Some k → k <ℤ pos 0 → is_below_zero o ≡ true
below_zero o k e h = ap is_below_zero e ∙ by k h
  where
    by : (z : ℤ) → z <ℤ pos 0 → int_lt z (pos 0) ≡ true
    by (pos n) g = absurd (omega (arith, ints, g))
    by (negsuc n) g = refl

module _ (rows : List Row) (ms : List ℤ) (polys : have_polys rows ≡ true)
    (w : IsWitness (all_nonnegative rows) ms) where
  abbrev parts : List (ℕ × ℤ)
  parts = parts_from 0 rows ms

  abbrev whole : Body
  whole = sum_from (number (pos 0)) rows parts

  lawful : are_lawful rows parts ≡ true
  lawful =
      lawful_parts rows 0 rows ms (from_beginning rows) w.one_each w.none_negative 0 (omega arith)

  adds : parts_within rows parts ≡ true →
      Adds rows (number (pos 0)) parts (λ x. total x (all_nonnegative rows) ms)
  adds h =
      parts_add rows 0 rows ms (from_beginning rows) polys w.one_each (number (pos 0))
      (fitting_number_poly (pos 0) refl)
      (ap (λ b. cond b (sum_within (number (pos 0)) rows parts) true) (sym lawful) ∙ h)

  negative_whole : Adds rows (number (pos 0)) parts (λ x. total x (all_nonnegative rows) ms) →
      is_below_zero (constant_of (out-Body whole).terms) ≡ true
  negative_whole a =
      let nothing : (x : Mono) → of_mono x (number (pos 0)) ≡ pos 0 =
      λ x. ap (coefficient x) (terms-of_terms []) in
      let totals : (x : Mono) → of_mono x whole ≡ total x (all_nonnegative rows) ms =
      λ x. let each = a.each x in let none = nothing x in omega (arith, ints, each, none) in
      let value = numeral (out-Body whole).terms (poly_terms whole a.poly).listed
      (λ x o. totals x ∙ w.cancels x o) in
      let same : value.value ≡ total one (all_nonnegative rows) ms =
      sym ((only_number (out-Body whole).terms value.value value.is).number) ∙ totals one in
      below_zero (constant_of (out-Body whole).terms) value.value value.is
      (subst (λ z. z <ℤ pos 0) (sym same) w.below_zero)

  -- the sum that the multipliers of a witness make is a negative number
  pub witness_is_negative : parts_within rows parts ≡ true → is_negative (sum_of rows parts) ≡ true
  witness_is_negative h =
      ap (λ b. is_negative (cond b (Some whole) None)) lawful ∙ negative_whole (adds h)

-- so is that of the multipliers that the elimination finds
pub found_is_negative : (limit : ℕ) (rows : List Row) (ms : List ℤ) → have_polys rows ≡ true →
    list_all opposite_within rows ≡ true → elimination limit (all_nonnegative rows) ≡ found ms →
    parts_within rows (parts_from 0 rows ms) ≡ true →
    is_negative (sum_of rows (parts_from 0 rows ms)) ≡ true
found_is_negative limit rows ms h o e =
    witness_is_negative rows ms h
    (witness limit (all_nonnegative rows) ms (nonnegative_polys rows h o) e)
