-- The roundings of rows of polynomials: each row that is to be rounded can be.
use Rattle.std.proofs.Common.{◌≡◌, ◌∙◌, ap, sym, refl, cond, ℕ, suc, ◌<◌, nat_le, nat_lt, Bool, true, false, ◌&&◌, All, Some, None, List, [], ◌∷◌, ◌++◌, slice_get, ℤ, pos, negsuc, int_lt, arith}
use Rattle.std.proofs.lemmas.Int.{ints}
use Rattle.std.proofs.lemmas.Bool.{and_from, and_parts, ltb-true}
use Rattle.std.proofs.lemmas.List.Elements.{All-append, All-cons, All-nil, All-take}
use Rattle.rx_poly.specs.Constants.{number}
use Rattle.rx_poly.specs.Limits.{body_sum, is_within, scaled_by}
use Rattle.rx_poly.specs.Order.{mono_cmp}
use Rattle.rx_poly.specs.Terms.{add_terms, times_number}
use Rattle.rx_poly.specs.declared.body.Body.{Body, out-Body}
use Rattle.rx_poly.proofs.Levels.{terms-of_terms}
use Rattle.rx_row.specs.Parts.{are_lawful, is_taken, multiple_within, parts_within, poly_of, sum_from, sum_of, sum_within, takes, with_multiple}
use Rattle.rx_row.specs.declared.row.Row.{Row}
use Rattle.rx_row.specs.declared.row.Row.TheVariants.{Eq, Ge, Ne}
use Rattle.rx_fm.specs.Content.{content}
use Rattle.rx_fm.proofs.Sums.{above_of}
use Rattle.rx_cert.specs.Rounding.{can_be_rounded_by, divides_terms, rounded, rounding_row}
use Rattle.rx_cert.proofs.Rounded.{rounded_poly}
use Rattle.rx_solve.specs.Roundings.{roundings, roundings_from, roundings_of, roundings_with}
use Rattle.rx_solve.specs.declared.roundings.Rounding.{Rounding}
use Rattle.rx_refuter_laws.specs.Leaves.{has_poly, have_polys}
use Rattle.rx_refuter_laws.proofs.Contents.{IsSign, content_divides, minus_one_is_sign, one_is_sign}
use Rattle.rx_refuter_laws.proofs.Places.{StandsFrom, first_there, from_beginning, others_there, still_there}
use Rattle.rx_refuter_laws.proofs.Polynomials.{fitting_number_poly, multiple_poly, sum_poly}

-- the row is there, takes the multiplier, and can be divided and rounded
pub record Roundable (rows : List Row) (r : Rounding) : Type 0 where
  pub row : Row
  pub there : slice_get rows r.at ≡ Some row
  pub poly : has_poly row ≡ true
  pub taken : takes row r.by ≡ true
  pub above : int_lt (pos 0) r.divisor ≡ true
  pub divided : divides_terms r.divisor (times_number r.by (out-Body (poly_of row)).terms) ≡ true

pub still_roundable : (rows more : List Row) (r : Rounding) → Roundable rows r →
    Roundable (rows ++ more) r
still_roundable rows more r a = record {
  row = a.row;
  there = still_there rows more r.at a.row a.there;
  poly = a.poly;
  taken = a.taken;
  above = a.above;
  divided = a.divided;
}

-- ---- the rounded row

module _ (rows : List Row) (r : Rounding) (a : Roundable rows r) where
  abbrev part : List (ℕ × ℤ)
  part = (r.at, r.by) ∷ []

  abbrev multiple : Body
  multiple = scaled_by r.by (poly_of a.row)

  -- the sum of the one part
  abbrev one_sum : Body
  one_sum = body_sum (number (pos 0)) multiple

  abbrev pub rounded_row : Row
  rounded_row = Ge (rounded r.divisor one_sum)

  lawful : are_lawful rows part ≡ true
  lawful =
      let first : nat_le 0 r.at ≡ true = grind arith in
      and_from (nat_le 0 r.at) (is_taken (slice_get rows r.at) r.by && true) first
      (and_from (is_taken (slice_get rows r.at) r.by) true
      (ap (λ o. is_taken o r.by) a.there ∙ a.taken) refl)

  sum_is : sum_of rows part ≡ Some one_sum
  sum_is =
      ap (λ b. cond b (Some (sum_from (number (pos 0)) rows part)) None) lawful
      ∙ ap (λ o. Some (with_multiple (number (pos 0)) o r.by)) a.there

  terms_are : (out-Body one_sum).terms ≡ times_number r.by (out-Body (poly_of a.row)).terms
  terms_are =
      terms-of_terms
      (add_terms mono_cmp (out-Body (number (pos 0))).terms (out-Body multiple).terms)
      ∙ (λ i. add_terms mono_cmp (terms-of_terms [] i)
      (terms-of_terms (times_number r.by (out-Body (poly_of a.row)).terms) i))

  can_be : can_be_rounded_by r.divisor one_sum ≡ true
  can_be =
      and_from (int_lt (pos 0) r.divisor) (divides_terms r.divisor (out-Body one_sum).terms) a.above
      (ap (divides_terms r.divisor) terms_are ∙ a.divided)

  pub row_made : rounding_row r.divisor (sum_of rows part) ≡ Some rounded_row
  row_made = ap (rounding_row r.divisor) sum_is ∙ ap (λ b. cond b (Some rounded_row) None) can_be

  limits : parts_within rows part ≡ true → (is_within multiple && is_within one_sum) ≡ true
  limits w =
      (and_parts (is_within multiple && is_within one_sum) true
      (ap (λ o. multiple_within (number (pos 0)) o r.by && true) (sym a.there)
      ∙ ap (λ b. cond b (sum_within (number (pos 0)) rows part) true) (sym lawful) ∙ w)).0

  -- it is one of a polynomial
  pub rounded_row_poly : parts_within rows part ≡ true → has_poly rounded_row ≡ true
  rounded_row_poly w =
      let parts = and_parts (is_within multiple) (is_within one_sum) (limits w) in
      rounded_poly r.divisor one_sum (above_of r.divisor a.above)
      (sum_poly (number (pos 0)) multiple (fitting_number_poly (pos 0) refl)
      (multiple_poly r.by (poly_of a.row) a.poly parts.0) parts.1)

-- ---- the roundings of rows

module _ (rows : List Row) (i : ℕ) where
  one_roundable : (row : Row) → slice_get rows i ≡ Some row → has_poly row ≡ true → (k : ℤ) →
      IsSign k → takes row k ≡ true → 1 < content (poly_of row) →
      Roundable rows (record { at = i; by = k; divisor = pos (content (poly_of row)) })
  one_roundable row there poly k sign taken g = record {
    row = row;
    there = there;
    poly = poly;
    taken = taken;
    above = positive (content (poly_of row)) g;
    divided = content_divides (poly_of row) k sign poly g;
  }
    where
      positive : (n : ℕ) → 1 < n → int_lt (pos 0) (pos n) ≡ true
      positive n h = grind (arith, ints)

  with_roundable : (row : Row) → slice_get rows i ≡ Some row → has_poly row ≡ true →
      1 < content (poly_of row) →
      All (Roundable rows) (roundings_with (pos (content (poly_of row))) i row)
  with_roundable (Ge p) there poly g =
      All-cons (Roundable rows) _ [] (one_roundable (Ge p) there poly (pos 1) one_is_sign refl g)
      (All-nil (Roundable rows))
  with_roundable (Eq p) there poly g =
      let twice : Rounding = record { at = i; by = negsuc 0; divisor = pos (content p) } in
      All-cons (Roundable rows) _ (twice ∷ [])
      (one_roundable (Eq p) there poly (pos 1) one_is_sign refl g)
      (All-cons (Roundable rows) twice []
      (one_roundable (Eq p) there poly (negsuc 0) minus_one_is_sign refl g)
      (All-nil (Roundable rows)))
  with_roundable (Ne p) there poly g = All-nil (Roundable rows)

  own_roundable : (row : Row) → slice_get rows i ≡ Some row → has_poly row ≡ true →
      All (Roundable rows) (roundings_of i row)
  own_roundable row there poly = by (nat_lt 1 (content (poly_of row))) refl
    where
      by : (b : Bool) → nat_lt 1 (content (poly_of row)) ≡ b → All (Roundable rows)
          (cond b (roundings_with (pos (content (poly_of row))) i row) [])
      by true g = with_roundable row there poly (ltb-true 1 (content (poly_of row)) g)
      by false g = All-nil (Roundable rows)

from_roundable : (rows : List Row) (i : ℕ) (rest : List Row) → StandsFrom rows i rest →
    have_polys rest ≡ true → All (Roundable rows) (roundings_from i rest)
from_roundable rows i [] h g = All-nil (Roundable rows)
from_roundable rows i (row ∷ rest) h g =
    let p = and_parts (has_poly row) (have_polys rest) g in
    All-append (Roundable rows) (roundings_of i row) (roundings_from (suc i) rest)
    (own_roundable rows i row (first_there rows i row rest h) p.0)
    (from_roundable rows (suc i) rest (others_there rows i row rest h) p.1)

-- the roundings of rows of polynomials can all be made
pub all_roundable : (rows : List Row) → have_polys rows ≡ true → All (Roundable rows)
    (roundings rows)
all_roundable rows h =
    All-take (Roundable rows) 64 (roundings_from 0 rows)
    (from_roundable rows 0 rows (from_beginning rows) h)
