-- A polynomial that is rounded stays one: coefficients only fall in size, and what is 0 is left
-- out.
use Rattle.std.proofs.Common.{◌≡◌, ap, subst, sym, refl, ℕ, zero, suc, ◌+◌, ◌*◌, ◌/◌, ◌%◌, ◌^◌, ◌<◌, ◌≤◌, Bool, true, false, ◌&&◌, ◌||◌, ◌==◌, nat_le, sum_by, List, [], ◌∷◌, length, ℤ, pos, negsuc, ◌<ℤ◌, arith}
use Rattle.std.proofs.lemmas.Bool.{and_parts, and_from, ltb-true, lt-ltb}
use Rattle.std.proofs.lemmas.Bool.Decides.{nat_tests}
use Rattle.std.proofs.lemmas.Int.{ints}
use Rattle.std.proofs.lemmas.List.Sums.{sum_by-cons}
use Rattle.std.specs.Int.{int_div_euclid}
use Rattle.std.specs.Ordering.{is_lt}
use Rattle.rx_plain.proofs.Naturals.{limit_kept}
use Rattle.rx_plain.proofs.Booleans.{and_true}
use Rattle.rx_poly.proofs.Levels.{body_depth_is, body_size_is}
use Rattle.rx_poly.proofs.OrderLemmas.{mono_total}
use Rattle.rx_poly.proofs.PolyLaws.{depth-of_terms, poly_of_terms, poly_terms, size-of_terms}
use Rattle.rx_poly.proofs.Same.{same_mono}
use Rattle.rx_poly.proofs.TermLaws.{all_keys-cons_nonzero, listed-cons_nonzero, listed_parts, put_cases}
use Rattle.rx_poly.specs.Limits.{all_fit, body_depth, body_size, fits_i128, greatest, is_small, mono_depth, mono_size, of_terms}
use Rattle.rx_poly.specs.Normal.{is_normal, is_normal_mono, is_poly}
use Rattle.rx_poly.specs.Order.{mono_cmp}
use Rattle.rx_poly.specs.Terms.{all_keys, is_sparse_sorted}
use Rattle.rx_poly.specs.declared.body.Mono.{Mono}
use Rattle.rx_poly.specs.declared.body.Body.{Body, out-Body}
use Rattle.rx_cert.specs.Rounding.{divides, divides_terms, is_one, rounded, rounded_terms}

-- ---- the test of the terms, from the first on

not_zero : (n : ℕ) → (suc n == 0) ≡ false
not_zero n = grind (arith, nat_tests)

-- a first term may be the constant only where it is the last
pub divides_step : (d : ℤ) (t : Mono × ℤ) (more : List (Mono × ℤ)) → divides_terms d (t ∷ more) ≡
    ((((length more == 0) && is_one t.0) || divides d t.1) && divides_terms d more)
divides_step d t [] = sym (and_true (is_one t.0 || divides d t.1))
divides_step d t (u ∷ us) =
    ap (λ b. ((b && is_one t.0) || divides d t.1) && divides_terms d (u ∷ us))
    (sym (not_zero (length us)))

-- ---- numbers

quotient_below : (a n m : ℕ) → a < m → a / suc n < m
quotient_below a n m h =
    let whole : suc n * (a / suc n) + a % suc n ≡ a = omega arith in
    omega arith

fits_rounded : (c : ℤ) (n : ℕ) → fits_i128 c ≡ true → fits_i128 (int_div_euclid c (pos (suc n))) ≡
    true
fits_rounded (pos a) n h =
    lt-ltb (a / suc n) (2 ^ 127) (quotient_below a n (2 ^ 127) (ltb-true a (2 ^ 127) h))
fits_rounded (negsuc a) n h =
    lt-ltb (a / suc n) (2 ^ 127) (quotient_below a n (2 ^ 127) (ltb-true a (2 ^ 127) h))

-- ---- terms

module _ (n : ℕ) where
  abbrev d : ℤ
  d = pos (suc n)

  keys-rounded : (test : Mono → Bool) (ts : List (Mono × ℤ)) → all_keys test ts ≡ true →
      all_keys test (rounded_terms d ts) ≡ true
  keys-rounded test [] h = refl
  keys-rounded test (t ∷ ts) h =
      let p = and_parts (test t.0) (all_keys test ts) h in
      all_keys-cons_nonzero test t.0 (int_div_euclid t.1 d) (rounded_terms d ts) p.0
      (keys-rounded test ts p.1)

  listed-rounded : (ts : List (Mono × ℤ)) → is_sparse_sorted mono_cmp ts ≡ true →
      is_sparse_sorted mono_cmp (rounded_terms d ts) ≡ true
  listed-rounded [] h = refl
  listed-rounded (t ∷ ts) h =
      let l = listed_parts mono_cmp mono_total same_mono t ts h in
      listed-cons_nonzero mono_cmp mono_total same_mono t.0 (int_div_euclid t.1 d)
      (rounded_terms d ts)
      (keys-rounded (λ x. is_lt (mono_cmp t.0 x)) ts l.before) (listed-rounded ts l.rest)

  all_fit-rounded : (ts : List (Mono × ℤ)) → all_fit ts ≡ true → all_fit (rounded_terms d ts) ≡ true
  all_fit-rounded [] h = refl
  all_fit-rounded (t ∷ ts) h =
      let p = and_parts (fits_i128 t.1) (all_fit ts) h in
      let rest = all_fit-rounded ts p.1 in
      put_cases (λ us. all_fit us ≡ true) t.0 (int_div_euclid t.1 d) (rounded_terms d ts)
      (λ _. rest)
      (λ _. and_from (fits_i128 (int_div_euclid t.1 d)) (all_fit (rounded_terms d ts))
      (fits_rounded t.1 n p.0) rest)

  size-rounded : (ts : List (Mono × ℤ)) → sum_by (λ (t : Mono × ℤ). mono_size t.0)
      (rounded_terms d ts) ≤ sum_by (λ (t : Mono × ℤ). mono_size t.0) ts
  size-rounded [] = omega arith
  size-rounded (t ∷ ts) =
      let rest = size-rounded ts in
      let whole = sum_by-cons (λ (t : Mono × ℤ). mono_size t.0) t ts in
      put_cases (λ us. sum_by (λ (t : Mono × ℤ). mono_size t.0) us ≤
      sum_by (λ (t : Mono × ℤ). mono_size t.0) (t ∷ ts)) t.0 (int_div_euclid t.1 d)
      (rounded_terms d ts)
      (λ _. omega arith) (λ _. omega (
        arith,
        sum_by-cons (λ (t : Mono × ℤ). mono_size t.0)
            (t.0, int_div_euclid t.1 d) (rounded_terms d ts),
      ))

  depth-rounded : (ts : List (Mono × ℤ)) → greatest (λ (t : Mono × ℤ). mono_depth t.0)
      (rounded_terms d ts) ≤ greatest (λ (t : Mono × ℤ). mono_depth t.0) ts
  depth-rounded [] = omega arith
  depth-rounded (t ∷ ts) =
      let rest = depth-rounded ts in
      put_cases (λ us. greatest (λ (t : Mono × ℤ). mono_depth t.0) us ≤
      greatest (λ (t : Mono × ℤ). mono_depth t.0) (t ∷ ts)) t.0 (int_div_euclid t.1 d)
      (rounded_terms d ts)
      (λ _. omega arith) (λ _. omega arith)

  small-rounded : (p : Body) → is_small p ≡ true →
      is_small (of_terms (rounded_terms d (out-Body p).terms)) ≡ true
  small-rounded p h =
      let q = and_parts (nat_le (body_size p) 4096) (nat_le (body_depth p) 64) h in
      let ts = (out-Body p).terms in
      let size : body_size (of_terms (rounded_terms d ts)) ≤ body_size p =
      subst (λ k. k ≤ body_size p) (sym (size-of_terms (rounded_terms d ts)))
      (subst (λ k. sum_by (λ (t : Mono × ℤ). mono_size t.0) (rounded_terms d ts) ≤ k)
      (sym (body_size_is p)) (size-rounded ts)) in
      let depth : body_depth (of_terms (rounded_terms d ts)) ≤ body_depth p =
      subst (λ k. k ≤ body_depth p) (sym (depth-of_terms (rounded_terms d ts)))
      (subst (λ k. greatest (λ (t : Mono × ℤ). mono_depth t.0) (rounded_terms d ts) ≤ k)
      (sym (body_depth_is p)) (depth-rounded ts)) in
      and_from (nat_le (body_size (of_terms (rounded_terms d ts))) 4096)
      (nat_le (body_depth (of_terms (rounded_terms d ts))) 64)
      (limit_kept (body_size (of_terms (rounded_terms d ts))) (body_size p) 4096 size q.0)
      (limit_kept (body_depth (of_terms (rounded_terms d ts))) (body_depth p) 64 depth q.1)

  poly-rounded : (p : Body) → is_poly p ≡ true → is_poly (rounded d p) ≡ true
  poly-rounded p h =
      let ts = (out-Body p).terms in
      let t = poly_terms p h in
      poly_of_terms (rounded_terms d ts) (record {
        keys = keys-rounded is_normal_mono ts t.keys;
        fits = all_fit-rounded ts t.fits;
        listed =
            listed-rounded ts t.listed;
      })
      (small-rounded p (and_parts (is_normal p) (is_small p) h).1)

-- a divisor above 0
above_zero : (z : ℤ) → pos 0 <ℤ z → (n : ℕ) × (z ≡ pos (suc n))
above_zero (pos zero) h = absurd (omega (arith, ints))
above_zero (pos (suc n)) h = (n, refl)
above_zero (negsuc n) h = absurd (omega (arith, ints))

-- a rounded polynomial is a polynomial
pub rounded_poly : (z : ℤ) (p : Body) → pos 0 <ℤ z → is_poly p ≡ true → is_poly (rounded z p) ≡ true
rounded_poly z p h g = by (above_zero z h)
  where
    by : (n : ℕ) × (z ≡ pos (suc n)) → is_poly (rounded z p) ≡ true
    by (n, is) = subst (λ (y : ℤ). is_poly (rounded y p) ≡ true) (sym is) (poly-rounded n p g)
