-- What the coefficients of a joint polynomial are, and that it is a polynomial.
use Rattle.std.proofs.Common.{◌≡◌, ◌∙◌, ap, Bool, true, ◌&&◌, refl, sym, List, ℕ, zero, suc, ◌/◌, ℤ, pos, negsuc, ◌+ℤ◌, ◌*ℤ◌, ◌≤ℤ◌, ◌<ℤ◌, neg_ℤ, unsigned_abs, arith}
use Rattle.std.proofs.lemmas.Int.{ints}
use Rattle.std.proofs.lemmas.Bool.{and_parts, and_from}
use Rattle.std.proofs.Math.Nat.{mul-div_cancel'}
use Rattle.std.specs.Int.{◌∣◌}
use lib.IntN.{*ℤ_comm}
use Rattle.rx_plain.proofs.Integers.{mul-assoc-int, mul-add-int, mul-zero-int}
use Rattle.rx_poly.specs.Limits.{body_sum, all_fit, is_small, is_within, of_terms, scaled_by}
use Rattle.rx_poly.specs.Normal.{is_normal, is_normal_mono, is_poly}
use Rattle.rx_poly.specs.Order.{mono_cmp}
use Rattle.rx_poly.specs.Reading.{coefficient}
use Rattle.rx_poly.specs.Terms.{add_terms, times_number}
use Rattle.rx_poly.specs.Value.{quotient}
use Rattle.rx_poly.proofs.Levels.{terms-of_terms}
use Rattle.rx_poly.proofs.OrderLemmas.{mono_total}
use Rattle.rx_poly.proofs.Same.{same_mono}
use Rattle.rx_poly.proofs.TermLaws.{all_keys-add, listed-add}
use Rattle.rx_poly.proofs.PolyLaws.{listed-times_number, multiple_normal, poly_of_terms, poly_terms, within_terms}
use Rattle.rx_poly.specs.declared.body.Body.{Body, out-Body}
use Rattle.rx_poly.specs.declared.body.Mono.{Mono}
use Rattle.rx_fm.specs.Elimination.{at, eliminant, eliminant_within, common_divisor, common_divisor_within, resolvent, resolvent_within, primitive_part, linear_combination, linear_combination_within}
use Rattle.rx_fm.specs.Numbers.{combined_within, gcd, size_fits}
use Rattle.rx_fm.specs.declared.combination.Combination.{Combination}
use Rattle.rx_fm.proofs.Coefficients.{coefficient-each, divides_coefficient}
use Rattle.rx_poly_laws.proofs.SumCoefficients.{coefficient-add, coefficient-times}
use Rattle.rx_fm.proofs.Dividing.{common_divides, divided_poly, each, exact}
use Rattle.rx_fm.proofs.Gcd.{gcd_is, size_is}
use Rattle.rx_fm.proofs.Sums.{swap}

-- its polynomial is one
abbrev pub good : Combination → Bool
good c = is_poly c.poly

-- ---- sums of multiples

terms_of : (x : Mono) (ts : List (Mono × ℤ)) → coefficient x (out-Body (of_terms ts)).terms ≡
    coefficient x ts
terms_of x ts = ap (coefficient x) (terms-of_terms ts)

-- each coefficient of the combined sum
pub at-linear_combination : (x : Mono) (k l : ℤ) (p q : Combination) → good p ≡ true → good q ≡
    true →
    at x (linear_combination k p l q) ≡ at x p *ℤ k +ℤ at x q *ℤ l
at-linear_combination x k l p q h g =
    let ps = (out-Body p.poly).terms in
    let qs = (out-Body q.poly).terms in
    let left = poly_terms p.poly h in
    let right = poly_terms q.poly g in
    terms_of x (add_terms mono_cmp (out-Body (scaled_by k p.poly)).terms
    (out-Body (scaled_by l q.poly)).terms)
    ∙ (λ i. coefficient x (add_terms mono_cmp (terms-of_terms (times_number k ps) i)
    (terms-of_terms (times_number l qs) i)))
    ∙ coefficient-add x (times_number k ps) (times_number l qs)
    (listed-times_number k ps left.listed) (listed-times_number l qs right.listed)
    ∙ (λ i. coefficient-times x k ps left.listed i +ℤ coefficient-times x l qs right.listed i)

within_parts : (ts : List (Mono × ℤ)) → is_within (of_terms ts) ≡ true → (all_fit ts ≡ true) ×
    (is_small (of_terms ts) ≡ true)
within_parts ts h = and_parts (all_fit ts) (is_small (of_terms ts)) (sym (within_terms ts) ∙ h)

scaled_poly : (k : ℤ) (p : Body) → is_poly p ≡ true → is_within (scaled_by k p) ≡ true →
    is_poly (scaled_by k p) ≡ true
scaled_poly k p h w =
    let parts = within_parts (times_number k (out-Body p).terms) w in
    and_from (is_normal (scaled_by k p)) (is_small (scaled_by k p))
    (multiple_normal k p {ls = (out-Body p).terms} {ts = times_number k (out-Body p).terms} refl
    refl h parts.0) parts.1

added_poly : (p q : Body) → is_poly p ≡ true → is_poly q ≡ true → is_within (body_sum p q) ≡ true →
    is_poly (body_sum p q) ≡ true
added_poly p q h g w =
    let ps = (out-Body p).terms in
    let qs = (out-Body q).terms in
    let left = poly_terms p h in
    let right = poly_terms q g in
    let parts = within_parts (add_terms mono_cmp ps qs) w in
    poly_of_terms (add_terms mono_cmp ps qs) (record {
      keys = all_keys-add is_normal_mono mono_cmp ps qs left.keys right.keys;
      fits = parts.0;
      listed = listed-add mono_cmp mono_total same_mono ps qs right.listed;
    }) parts.1

pub combined_good : (k l : ℤ) (p q : Combination) → good p ≡ true → good q ≡ true →
    linear_combination_within k p l q ≡ true → good (linear_combination k p l q) ≡ true
combined_good k l p q h g w =
    let sum = body_sum (scaled_by k p.poly) (scaled_by l q.poly) in
    let multipliers = combined_within k p.multipliers l q.multipliers in
    let a = and_parts (is_within (scaled_by k p.poly))
    (is_within (scaled_by l q.poly) && (is_within sum && multipliers)) w in
    let b = and_parts (is_within (scaled_by l q.poly)) (is_within sum && multipliers) a.1 in
    let c = and_parts (is_within sum) multipliers b.1 in
    added_poly (scaled_by k p.poly) (scaled_by l q.poly) (scaled_poly k p.poly h a.0)
    (scaled_poly l q.poly g b.0) c.0

-- ---- division by the common divisor

pub at-primitive_part : (x : Mono) (c : Combination) → at x (primitive_part c) ≡
    quotient (at x c) (pos (common_divisor c))
at-primitive_part x c =
    terms_of x (each (common_divisor c) (out-Body c.poly).terms) ∙
    coefficient-each x (common_divisor c) (out-Body c.poly).terms

pub back-primitive_part : (x : Mono) (c : Combination) →
    pos (common_divisor c) *ℤ at x (primitive_part c) ≡ at x c
back-primitive_part x c =
    ap (λ z. pos (common_divisor c) *ℤ z) (at-primitive_part x c)
    ∙ exact (common_divisor c) (at x c) (divides_coefficient x (common_divisor c)
    (out-Body c.poly).terms
    (common_divides c).0)

reduced_good : (c : Combination) → good c ≡ true → good (primitive_part c) ≡ true
reduced_good c h = divided_poly (common_divisor c) c.poly h (common_divides c).0

-- ---- two joined

-- the combination that is reduced
abbrev pub crossed : Mono → Combination → Combination → Combination
crossed m p q = eliminant (unsigned_abs (at m p)) (unsigned_abs (at m q)) p q

-- by how much the joint one was divided, in comparison with the two times each other's size
abbrev pub factor : Mono → Combination → Combination → ℤ
factor m p q =
    pos (gcd (unsigned_abs (at m p)) (unsigned_abs (at m q))) *ℤ pos
    (common_divisor (crossed m p q))

pub factor_not_negative : (m : Mono) (p q : Combination) → pos 0 ≤ℤ factor m p q
factor_not_negative m p q = omega (arith, ints)

size_of_below : (z : ℤ) → pos 0 <ℤ neg_ℤ z → pos (unsigned_abs z) ≡ neg_ℤ z
size_of_below (pos zero) h = refl
size_of_below (pos (suc n)) h = absurd (omega (arith, ints))
size_of_below (negsuc n) h = refl

cofactor_back : (g n : ℕ) → g ∣ n → pos g *ℤ pos (n / g) ≡ pos n
cofactor_back g n h = ap pos (mul-div_cancel' g {m = n} h)

module _ (m : Mono) (p q : Combination) (h : good p ≡ true) (k : good q ≡ true) where
  abbrev a : ℕ
  a = unsigned_abs (at m p)

  abbrev b : ℕ
  b = unsigned_abs (at m q)

  abbrev g : ℕ
  g = gcd a b

  pub joined_good : resolvent_within m p q ≡ true → good (resolvent m p q) ≡ true
  joined_good w =
      let parts = and_parts (size_fits (at m q))
      (eliminant_within a b p q && common_divisor_within (crossed m p q)) w in
      let inner = and_parts (eliminant_within a b p q) (common_divisor_within (crossed m p q))
      parts.1 in
      reduced_good (crossed m p q) (combined_good (pos (b / g)) (pos (a / g)) p q h k inner.0)

  pub at-crossed : (x : Mono) → at x (crossed m p q) ≡
      at x p *ℤ pos (b / g) +ℤ at x q *ℤ pos (a / g)
  at-crossed x = at-linear_combination x (pos (b / g)) (pos (a / g)) p q h k

  times_back : (z : ℤ) (n : ℕ) → g ∣ n → pos g *ℤ (z *ℤ pos (n / g)) ≡ pos n *ℤ z
  times_back z n d =
      swap (pos g) z (pos (n / g)) ∙ ap (λ y. z *ℤ y) (cofactor_back g n d) ∙ *ℤ_comm z (pos n)

  -- each coefficient of the combined sum, times the common divisor of the two sizes
  crossed_times : (x : Mono) → pos 0 <ℤ at m p → pos 0 <ℤ neg_ℤ (at m q) →
      pos g *ℤ at x (crossed m p q) ≡ neg_ℤ (at m q) *ℤ at x p +ℤ at m p *ℤ at x q
  crossed_times x up down =
      let first : pos b ≡ neg_ℤ (at m q) = size_of_below (at m q) down in
      let second : pos a ≡ at m p = sym (size_is (at m p) (omega (arith, ints))) in
      ap (λ z. pos g *ℤ z) (at-crossed x)
      ∙ mul-add-int (pos g) (at x p *ℤ pos (b / g)) (at x q *ℤ pos (a / g))
      ∙ (λ i. times_back (at x p) b (gcd_is a b).1 i +ℤ times_back (at x q) a (gcd_is a b).0 i)
      ∙ (λ i. first i *ℤ at x p +ℤ second i *ℤ at x q)

  -- each coefficient of the joint one, times the factor
  pub cross : (x : Mono) → pos 0 <ℤ at m p → pos 0 <ℤ neg_ℤ (at m q) →
      factor m p q *ℤ at x (resolvent m p q) ≡ neg_ℤ (at m q) *ℤ at x p +ℤ at m p *ℤ at x q
  cross x up down =
      mul-assoc-int (pos g) (pos (common_divisor (crossed m p q))) (at x (resolvent m p q))
      ∙ ap (λ z. pos g *ℤ z) (back-primitive_part x (crossed m p q)) ∙ crossed_times x up down

  -- the monomial cancels
  pub crossed_vanishes : pos 0 <ℤ at m p → pos 0 <ℤ neg_ℤ (at m q) → pos g *ℤ at m (crossed m p q) ≡
      pos 0
  crossed_vanishes up down =
      let turned : neg_ℤ (at m q) *ℤ at m p ≡ at m p *ℤ neg_ℤ (at m q) =
      *ℤ_comm (neg_ℤ (at m q)) (at m p) in
      let both = sym (mul-add-int (at m p) (neg_ℤ (at m q)) (at m q)) in
      let none : neg_ℤ (at m q) +ℤ at m q ≡ pos 0 = omega (arith, ints) in
      crossed_times m up down ∙ (λ i. turned i +ℤ at m p *ℤ at m q) ∙ both ∙
      ap (λ z. at m p *ℤ z) none ∙ mul-zero-int (at m p)
