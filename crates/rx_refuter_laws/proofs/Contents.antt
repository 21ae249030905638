-- The content of a polynomial divides all its coefficients but the constant, which is the last.
use Rattle.std.proofs.Common.{◌≡◌, ◌∙◌, ap, subst, sym, refl, cond, ℕ, zero, suc, mul-suc, ◌+◌, ◌-◌, ◌*◌, ◌/◌, ◌%◌, ◌<◌, ◌≤◌, ◌==◌, nat_lt, eqb-true, Bool, true, false, not, ◌&&◌, ◌||◌, List, [], ◌∷◌, filter, length, map, ℤ, pos, negsuc, ◌*ℤ◌, neg_ℤ, unsigned_abs, arith}
use Rattle.std.proofs.lemmas.Int.{ints}
use Rattle.std.proofs.lemmas.Bool.{and_from, and_parts, ltb-false, ltb-true, or_left, or_right}
use Rattle.std.proofs.Math.Nat.{mul-div_cancel', mul-le-mul_left}
use Rattle.std.specs.Int.{◌∣◌}
use Rattle.std.specs.Ordering.{is_lt, nat_cmp, ordering_then}
use Rattle.std.specs.declared.cmp.Ordering.{Ordering}
use Rattle.std.specs.declared.cmp.Ordering.TheVariants.{Equal, Greater, Less}
use Rattle.rx_plain.specs.Graded.{graded_cmp}
use Rattle.rx_plain.proofs.Integers.{mul-one-int}
use Rattle.rx_poly.specs.Normal.{is_poly}
use Rattle.rx_poly.specs.Order.{atom_cmp, mono_cmp}
use Rattle.rx_poly.specs.Terms.{cons_nonzero, is_before, is_sparse_sorted, is_zero, times_number}
use Rattle.rx_poly.specs.declared.body.Atom.{Atom}
use Rattle.rx_poly.specs.declared.body.Body.{Body, out-Body}
use Rattle.rx_poly.specs.declared.body.Mono.{Mono, out-Mono}
use Rattle.rx_poly.proofs.Emptiness.{empty_is}
use Rattle.rx_poly.proofs.OrderLemmas.{mono_cmp_is, mono_total}
use Rattle.rx_poly.proofs.PolyLaws.{poly_terms}
use Rattle.rx_poly.proofs.Same.{same_mono}
use Rattle.rx_poly.proofs.TermLaws.{listed_parts, lt_is, put_cases}
use Rattle.rx_fm.specs.Content.{coefficients_but_one, content, variable_coefficients}
use Rattle.rx_fm.specs.Numbers.{divides_all}
use Rattle.rx_fm.proofs.Dividing.{divides as size_divides, divisor_of, with_divides}
use Rattle.rx_cert.specs.Rounding.{divides, divides_terms, is_one}
use Rattle.rx_cert.proofs.Rounded.{divides_step}

-- ---- the constant is the last term

-- a longer list comes first
longer_first : (n : ℕ) (r : Ordering) → 0 < n → ordering_then (nat_cmp n 0) r ≡ Less → ⊥
longer_first n r h = by (nat_lt n 0) (n == 0) refl refl
  where
    by : (b c : Bool) → nat_lt n 0 ≡ b → (n == 0) ≡ c →
        ordering_then (cond b Less (cond c Equal Greater)) r ≡ Less → ⊥
    by true c e f g = absurd (omega (arith, ltb-true n 0 e))
    by false true e f g = absurd (omega (arith, h, eqb-true n 0 f))
    by false false e f g = cc

empty_last : (ys : List Atom) → graded_cmp atom_cmp [] ys ≡ Less → ⊥
empty_last [] e = cc
empty_last (y ∷ ys) e = longer_first (length (y ∷ ys)) _ (omega arith) e

-- nothing comes after the constant
one_last : (m n : Mono) → is_one m ≡ true → mono_cmp m n ≡ Less → ⊥
one_last m n o e =
    empty_last (out-Mono n).atoms
    (ap (λ xs. graded_cmp atom_cmp xs (out-Mono n).atoms) (sym (empty_is (out-Mono m).atoms o))
    ∙ sym (mono_cmp_is m n) ∙ e)

not_the_last : (t u : Mono × ℤ) (us : List (Mono × ℤ)) → is_sparse_sorted mono_cmp (t ∷ u ∷ us) ≡
    true → is_one t.0 ≡ false
not_the_last t u us h = by (is_one t.0) refl
  where
    less : mono_cmp t.0 u.0 ≡ Less
    less =
        lt_is (mono_cmp t.0 u.0) (and_parts (is_lt (mono_cmp t.0 u.0)) (is_before mono_cmp t.0 us)
        (listed_parts mono_cmp mono_total same_mono t (u ∷ us) h).before).0

    by : (b : Bool) → is_one t.0 ≡ b → is_one t.0 ≡ false
    by true e = absurd (one_last t.0 u.0 e less)
    by false e = e

-- ---- numbers

-- the remainder of one less is the greatest, where the number leaves none
before_multiple : (a n : ℕ) → suc n ∣ suc a → a % suc n ≡ n
before_multiple a n h =
    by (suc a / suc n) (mul-div_cancel' (suc n) {m = suc a} h)
  where
    rest : ℕ
    rest = a % suc n

    by : (q : ℕ) → suc n * q ≡ suc a → a % suc n ≡ n
    by zero e = absurd (omega arith)
    by (suc q) e = same (a / suc n) (omega arith) (omega arith)
      where
        same : (k : ℕ) → suc n * k + a % suc n ≡ a → a % suc n ≤ n → a % suc n ≡ n
        same k whole small = order (nat_lt k q) (nat_lt q k) refl refl
          where
            order : (b c : Bool) → nat_lt k q ≡ b → nat_lt q k ≡ c → a % suc n ≡ n
            order true c f g =
                let wide : suc n * suc k ≤ suc n * q =
                mul-le-mul_left (suc n) (omega (arith, ltb-true k q f)) in
                absurd (omega (
                  arith,
                  mul-suc (suc n) k,
                  mul-suc (suc n) q,
                ))
            order false true f g =
                let wide : suc n * suc q ≤ suc n * k =
                mul-le-mul_left (suc n) (omega (arith, ltb-true q k g)) in
                absurd (omega (arith, mul-suc (suc n) q))
            order false false f g =
                let equal : k ≡ q = omega (arith, ltb-false k q f, ltb-false q k g) in
                let products = ap (λ z. suc n * z) equal in
                omega (arith, mul-suc (suc n) q)

no_remainder : (c : ℤ) (n : ℕ) → suc n ∣ unsigned_abs c → divides (pos (suc n)) c ≡ true
no_remainder (pos a) n h =
    let none : a % suc n ≡ 0 = omega (arith, mul-div_cancel' (suc n) {m = a} h) in
    ap (λ r. is_zero (pos r)) none
no_remainder (negsuc a) n h =
    let none : suc n - 1 - a % suc n ≡ 0 = omega (arith, before_multiple a n h) in
    ap (λ r. is_zero (pos r)) none

-- a sign doesn't change the size
abbrev pub IsSign : ℤ → Type 0
IsSign k = (c : ℤ) → unsigned_abs (c *ℤ k) ≡ unsigned_abs c

pub one_is_sign : IsSign (pos 1)
one_is_sign c = ap unsigned_abs (mul-one-int c)

pub minus_one_is_sign : IsSign (negsuc 0)
minus_one_is_sign c =
    let turned : c *ℤ negsuc 0 ≡ neg_ℤ c = omega (arith, ints) in
    ap unsigned_abs turned ∙ by c
  where
    by : (z : ℤ) → unsigned_abs (neg_ℤ z) ≡ unsigned_abs z
    by (pos zero) = refl
    by (pos (suc n)) = refl
    by (negsuc n) = refl

-- ---- terms

module _ (n : ℕ) (k : ℤ) (sign : IsSign k) where
  abbrev d : ℤ
  d = pos (suc n)

  divides_turned : (c : ℤ) → size_divides (suc n) c ≡ true → divides d (c *ℤ k) ≡ true
  divides_turned c h =
      no_remainder (c *ℤ k) n
      (subst (λ size. suc n ∣ size) (sym (sign c)) (divisor_of (suc n) c h))

  -- a term that the divisor divides, or that is the last
  with_term : (m : Mono) (c : ℤ) (ts : List (Mono × ℤ)) → divides_terms d ts ≡ true →
      (((length ts == 0) && is_one m) || divides d c) ≡ true →
      divides_terms d (cons_nonzero m c ts) ≡ true
  with_term m c ts h g =
      put_cases (λ us. divides_terms d us ≡ true) m c ts (λ _. h)
      (λ _. divides_step d (m, c) ts ∙
      and_from (((length ts == 0) && is_one m) || divides d c) (divides_terms d ts) g h)

  -- the divisor divides a term that isn't the constant, and those after it
  parts_divided : (t : Mono × ℤ) (ts : List (Mono × ℤ)) → is_one t.0 ≡ false →
      divides_all (suc n) (coefficients_but_one (t ∷ ts)) ≡ true →
      (size_divides (suc n) t.1 ≡ true) × (divides_all (suc n) (coefficients_but_one ts) ≡ true)
  parts_divided t ts o h =
      and_parts (size_divides (suc n) t.1) (divides_all (suc n) (coefficients_but_one ts))
      (ap (λ b. divides_all (suc n) (map (λ (u : Mono × ℤ). u.1) (cond (not b)
      (t ∷ filter (λ (u : Mono × ℤ). not (is_one u.0)) ts)
      (filter (λ (u : Mono × ℤ). not (is_one u.0)) ts)))) (sym o) ∙ h)

  one_term : (t : Mono × ℤ) → divides_all (suc n) (coefficients_but_one (t ∷ [])) ≡ true →
      divides_terms d (times_number k (t ∷ [])) ≡ true
  one_term t h = by (is_one t.0) refl
    where
      by : (b : Bool) → is_one t.0 ≡ b → divides_terms d (times_number k (t ∷ [])) ≡ true
      by true o =
          with_term t.0 (t.1 *ℤ k) [] refl (or_left (is_one t.0) (divides d (t.1 *ℤ k)) o)
      by false o =
          with_term t.0 (t.1 *ℤ k) [] refl (or_right (is_one t.0) (divides d (t.1 *ℤ k))
          (divides_turned t.1 (parts_divided t [] o h).0))

  all_divided : (ts : List (Mono × ℤ)) → is_sparse_sorted mono_cmp ts ≡ true →
      divides_all (suc n) (coefficients_but_one ts) ≡ true →
      divides_terms d (times_number k ts) ≡ true
  all_divided [] l h = refl
  all_divided (t ∷ []) l h = one_term t h
  all_divided (t ∷ u ∷ us) l h =
      let parts = parts_divided t (u ∷ us) (not_the_last t u us l) h in
      let rest = all_divided (u ∷ us)
      (listed_parts mono_cmp mono_total same_mono t (u ∷ us) l).rest parts.1 in
      with_term t.0 (t.1 *ℤ k) (times_number k (u ∷ us)) rest
      (or_right ((length (times_number k (u ∷ us)) == 0) && is_one t.0) (divides d (t.1 *ℤ k))
      (divides_turned t.1 parts.0))

-- the content of a polynomial divides what is rounded by it
pub content_divides : (p : Body) (k : ℤ) → IsSign k → is_poly p ≡ true → 1 < content p →
    divides_terms (pos (content p)) (times_number k (out-Body p).terms) ≡ true
content_divides p k sign h g =
    by (content p) g (with_divides 0 (variable_coefficients p))
  where
    by : (c : ℕ) → 1 < c → divides_all c (variable_coefficients p) ≡ true →
        divides_terms (pos c) (times_number k (out-Body p).terms) ≡ true
    by zero f e = absurd (omega arith)
    by (suc n) f e = all_divided n k sign (out-Body p).terms (poly_terms p h).listed e
