-- A sum of at least 0 stays one where it is divided and rounded down.
use Rattle.std.proofs.Common.{◌≡◌, ◌∙◌, ap, subst, sym, refl, ℕ, suc, zero, mul-suc, ◌+◌, ◌-◌, ◌*◌, ◌/◌, ◌%◌, ◌<◌, ◌≤◌, Bool, true, false, ◌||◌, List, [], ◌∷◌, ℤ, pos, negsuc, ◌+ℤ◌, ◌*ℤ◌, ◌≤ℤ◌, neg_ℤ, int_lt, arith}
use Rattle.std.proofs.lemmas.Int.{ints}
use Rattle.std.proofs.lemmas.Bool.{and_parts}
use Rattle.std.specs.Int.{int_div_euclid, int_rem_euclid}
use Rattle.std.proofs.Math.Nat.{mul-le-mul_left}
use Rattle.rx_poly.proofs.Emptiness.{empty_is}
use Rattle.rx_plain.proofs.Integers.{add-zero-int, mul-add-int, mul-assoc-int, mul-one-int, mul-zero-int}
use Rattle.rx_poly.proofs.Levels.{mono_value_is, value_is}
use Rattle.rx_poly.proofs.PolyLaws.{value-of_terms}
use Rattle.rx_poly.proofs.TermLaws.{sum-cons_nonzero, zero_is}
use Rattle.rx_poly.specs.Value.{atom_value, mono_value, product_of, sum_terms, value}
use Rattle.rx_poly.specs.declared.body.Mono.{Mono, out-Mono}
use Rattle.rx_poly.specs.declared.body.Body.{Body, out-Body}
use Rattle.rx_cert.specs.Rounding.{divides, divides_terms, can_be_rounded_by, is_one, rounded, rounded_terms}

-- ---- numbers

-- a divisor of at least 1
pub at_least_one : (d : ℤ) → int_lt (pos 0) d ≡ true → (n : ℕ) × (d ≡ pos (suc n))
at_least_one (pos zero) e = cc
at_least_one (pos (suc n)) e = (n, refl)
at_least_one (negsuc n) e = cc

-- a number is the divisor times the quotient, and a remainder
euclid : (c : ℤ) (n : ℕ) → (r : ℕ) × (int_rem_euclid c (pos (suc n)) ≡ pos r) × (r ≤ n) ×
    (c ≡ pos (suc n) *ℤ int_div_euclid c (pos (suc n)) +ℤ pos r)
euclid (pos a) n =
    let small : a % suc n ≤ n = omega arith in
    let whole : suc n * (a / suc n) + a % suc n ≡ a = omega arith in
    (a % suc n, refl, small, ap pos (sym whole))
euclid (negsuc a) n = (
  suc n - 1 - a % suc n,
  refl,
  omega arith,
  negative_whole a (suc n) (a / suc n) (a % suc n) (omega arith) (omega arith) (omega arith),
)
  where
    negative_whole : (a d q r : ℕ) → 0 < d → r < d → d * q + r ≡ a → negsuc a ≡
        neg_ℤ (pos (d * suc q)) +ℤ pos (d - 1 - r)
    negative_whole a d q r h g e = omega (arith, ints, mul-suc d q)

-- a number that the divisor divides is a multiple of the quotient
exact : (c : ℤ) (n : ℕ) → divides (pos (suc n)) c ≡ true → c ≡
    pos (suc n) *ℤ int_div_euclid c (pos (suc n)) +ℤ pos 0
exact c n h = by (euclid c n)
  where
    by : (r : ℕ) × (int_rem_euclid c (pos (suc n)) ≡ pos r) × (r ≤ n) ×
        (c ≡ pos (suc n) *ℤ int_div_euclid c (pos (suc n)) +ℤ pos r) → c ≡
        pos (suc n) *ℤ int_div_euclid c (pos (suc n)) +ℤ pos 0
    by (r, rem, small, whole) =
        let none : pos r ≡ pos 0 = sym rem ∙ zero_is (int_rem_euclid c (pos (suc n))) h in
        whole ∙ ap (λ z. pos (suc n) *ℤ int_div_euclid c (pos (suc n)) +ℤ z) none

-- ---- sums

-- a term that is divided exactly leaves the remainder of the others
with_term : (d c q v s t r : ℤ) → c ≡ d *ℤ q +ℤ pos 0 → s ≡ d *ℤ t +ℤ r → c *ℤ v +ℤ s ≡
    d *ℤ (q *ℤ v +ℤ t) +ℤ r
with_term d c q v s t r e f =
    let first : c *ℤ v ≡ d *ℤ (q *ℤ v) = ap (λ z. z *ℤ v) (e ∙ add-zero-int (d *ℤ q)) ∙
    mul-assoc-int d q v in
    let both : d *ℤ (q *ℤ v +ℤ t) ≡ d *ℤ (q *ℤ v) +ℤ d *ℤ t = mul-add-int d (q *ℤ v) t in
    omega (arith, ints)

-- the constant leaves its own
last_term : (d c q v r : ℤ) → v ≡ pos 1 → c ≡ d *ℤ q +ℤ r → c *ℤ v +ℤ pos 0 ≡
    d *ℤ (q *ℤ v +ℤ pos 0) +ℤ r
last_term d c q v r one e =
    add-zero-int (c *ℤ v) ∙ ap (λ z. c *ℤ z) one ∙ mul-one-int c ∙ e
    ∙ sym (ap (λ z. d *ℤ z +ℤ r) (add-zero-int (q *ℤ v) ∙ ap (λ z. q *ℤ z) one ∙ mul-one-int q))

-- the monomial without atoms has the value 1
one_worth : (a : ℕ → ℤ) (m : Mono) → is_one m ≡ true → mono_value a m ≡ pos 1
one_worth a m e = mono_value_is a m ∙ ap (product_of (atom_value a)) (empty_is (out-Mono m).atoms e)

module _ (a : ℕ → ℤ) (n : ℕ) where
  abbrev Rounds : List (Mono × ℤ) → Type 0
  Rounds ts =
      (r : ℕ) × (r ≤ n) × (sum_terms (mono_value a) ts ≡
      pos (suc n) *ℤ sum_terms (mono_value a) (rounded_terms (pos (suc n)) ts) +ℤ pos r)

  abbrev quotient_by : ℤ → ℤ
  quotient_by c = int_div_euclid c (pos (suc n))

  -- what is left out where it is 0 has the value 0
  put_back : (t : Mono × ℤ) (ts : List (Mono × ℤ)) (r : ℕ) → sum_terms (mono_value a) (t ∷ ts) ≡
      pos (suc n) *ℤ (quotient_by t.1 *ℤ mono_value a t.0 +ℤ sum_terms (mono_value a)
      (rounded_terms (pos (suc n)) ts)) +ℤ pos r → sum_terms (mono_value a) (t ∷ ts) ≡
      pos (suc n) *ℤ sum_terms (mono_value a) (rounded_terms (pos (suc n)) (t ∷ ts)) +ℤ pos r
  put_back t ts r e =
      e ∙ ap (λ z. pos (suc n) *ℤ z +ℤ pos r)
      (sym (sum-cons_nonzero (mono_value a) t.0 (quotient_by t.1) (rounded_terms (pos (suc n)) ts)))

  last_rounds : (t : Mono × ℤ) (b : Bool) → is_one t.0 ≡ b → (b || divides (pos (suc n)) t.1) ≡
      true → Rounds (t ∷ [])
  last_rounds t true one h = by (euclid t.1 n)
    where
      by : (r : ℕ) × (int_rem_euclid t.1 (pos (suc n)) ≡ pos r) × (r ≤ n) ×
          (t.1 ≡ pos (suc n) *ℤ quotient_by t.1 +ℤ pos r) → Rounds (t ∷ [])
      by (r, rem, small, whole) = (
        r,
        small,
        put_back t [] r (last_term (pos (suc n)) t.1 (quotient_by t.1)
            (mono_value a t.0) (pos r) (one_worth a t.0 one) whole),
      )
  last_rounds t false one h = (
    0,
    omega arith,
    put_back t [] 0 (with_term (pos (suc n)) t.1 (quotient_by t.1)
        (mono_value a t.0) (pos 0) (pos 0) (pos 0) (exact t.1 n h)
        (sym (ap (λ z. z +ℤ pos 0) (mul-zero-int (pos (suc n)))))),
  )

  -- a sum is the divisor times the rounded one, and a remainder
  rounds : (ts : List (Mono × ℤ)) → divides_terms (pos (suc n)) ts ≡ true → Rounds ts
  rounds [] h = (0, omega arith, sym (ap (λ z. z +ℤ pos 0) (mul-zero-int (pos (suc n)))))
  rounds (t ∷ []) h = last_rounds t (is_one t.0) refl h
  rounds (t ∷ u ∷ us) h =
      let p = and_parts (divides (pos (suc n)) t.1) (divides_terms (pos (suc n)) (u ∷ us)) h in
      let further = rounds (u ∷ us) p.1 in (
        further.0,
        further.1,
        put_back t (u ∷ us) further.0
            (with_term (pos (suc n)) t.1 (quotient_by t.1) (mono_value a t.0)
            (sum_terms (mono_value a) (u ∷ us))
            (sum_terms (mono_value a) (rounded_terms (pos (suc n)) (u ∷ us))) (pos further.0)
            (exact t.1 n p.0) further.2),
      )

-- what is at least 0 with a remainder below the divisor is at least 0 without it
without_remainder : (n r : ℕ) (w z : ℤ) → r ≤ n → z ≡ pos (suc n) *ℤ w +ℤ pos r → pos 0 ≤ℤ z →
    pos 0 ≤ℤ w
without_remainder n r (pos m) z h e g = omega (arith, ints)
without_remainder n r (negsuc m) z h e g =
    let wide : suc n * 1 ≤ suc n * suc m = mul-le-mul_left (suc n) (omega arith) in
    absurd (omega (arith, ints))

-- a sum of at least 0 that can be rounded stays one where it is rounded
pub rounded_holds : (a : ℕ → ℤ) (d : ℤ) (p : Body) → can_be_rounded_by d p ≡ true →
    pos 0 ≤ℤ value a p → pos 0 ≤ℤ value a (rounded d p)
rounded_holds a d p h g = by (at_least_one d parts.0)
  where
    parts : (int_lt (pos 0) d ≡ true) × (divides_terms d (out-Body p).terms ≡ true)
    parts = and_parts (int_lt (pos 0) d) (divides_terms d (out-Body p).terms) h

    by : (n : ℕ) × (d ≡ pos (suc n)) → pos 0 ≤ℤ value a (rounded d p)
    by (n, is) =
        let further = rounds a n (out-Body p).terms
        (subst (λ (z : ℤ). divides_terms z (out-Body p).terms ≡ true) is parts.1) in
        subst (λ (z : ℤ). pos 0 ≤ℤ value a (rounded z p)) (sym is)
        (without_remainder n further.0 (value a (rounded (pos (suc n)) p)) (value a p) further.1
        (value_is a p ∙ further.2 ∙ ap (λ z. pos (suc n) *ℤ z +ℤ pos further.0)
        (sym (value-of_terms a (rounded_terms (pos (suc n)) (out-Body p).terms)))) g)
