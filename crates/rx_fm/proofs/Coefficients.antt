-- The coefficients of a quotient of a polynomial, and of a number.
use Rattle.std.proofs.Common.{◌≡◌, ◌∙◌, ap, subst, Bool, true, false, cond, refl, sym, List, [], ◌∷◌, map, ℕ, Some, None, ℤ, pos}
use Rattle.std.proofs.lemmas.Bool.{and_parts}
use Rattle.std.proofs.lemmas.Nat.Gcd.{dvd-zero}
use Rattle.std.specs.Ordering.{is_lt, ordering_reverse}
use Rattle.std.specs.declared.cmp.Ordering.{Ordering}
use Rattle.std.specs.declared.cmp.Ordering.TheVariants.{Less, Equal, Greater}
use Rattle.std.proofs.lemmas.Option.{same_Some}
use Rattle.rx_poly.proofs.Emptiness.{empty_is}
use Rattle.rx_poly.specs.Normal.{is_number}
use Rattle.rx_poly.specs.Order.{mono_cmp}
use Rattle.rx_poly.specs.Reading.{coefficient, constant_of, found}
use Rattle.rx_poly.specs.Terms.{is_before, is_sparse_sorted, is_zero}
use Rattle.rx_poly.specs.Value.{quotient}
use Rattle.rx_poly.proofs.OrderLemmas.{mono_total}
use Rattle.rx_poly.proofs.Same.{same_mono}
use Rattle.rx_poly.proofs.TermLaws.{lt_is, listed_parts}
use Rattle.rx_poly_laws.proofs.Coefficients.{first_coefficient}
use Rattle.rx_poly.specs.declared.body.Mono.{Mono, out-Mono, roll-Mono, roll-out-Mono}
use Rattle.rx_fm.specs.Elimination.{is_one}
use Rattle.rx_fm.specs.Numbers.{divides_all}
use Rattle.rx_fm.specs.Witness.{one}
use Rattle.rx_fm.proofs.Dividing.{divides, each, quotient_zero, test_of}

-- ---- a quotient

by_found : (r : Ordering) (d : ℕ) (c rest rest' : ℤ) → rest' ≡ quotient rest (pos d) →
    found r (quotient c (pos d)) rest' ≡ quotient (found r c rest) (pos d)
by_found Less d c rest rest' e = e
by_found Equal d c rest rest' e = refl
by_found Greater d c rest rest' e = e

pub coefficient-each : (m : Mono) (d : ℕ) (ts : List (Mono × ℤ)) → coefficient m (each d ts) ≡
    quotient (coefficient m ts) (pos d)
coefficient-each m d [] = sym (quotient_zero d)
coefficient-each m d (t ∷ ts) =
    by_found (mono_cmp m t.0) d t.1 (coefficient m ts) (coefficient m (each d ts))
    (coefficient-each m d ts)

by_divides : (r : Ordering) (d : ℕ) (c rest : ℤ) → divides d c ≡ true → divides d rest ≡ true →
    divides d (found r c rest) ≡ true
by_divides Less d c rest h g = g
by_divides Equal d c rest h g = h
by_divides Greater d c rest h g = g

-- a divisor of all coefficients divides the one of each monomial
pub divides_coefficient : (m : Mono) (d : ℕ) (ts : List (Mono × ℤ)) →
    divides_all d (map (λ (t : Mono × ℤ). t.1) ts) ≡ true → divides d (coefficient m ts) ≡ true
divides_coefficient m d [] h = test_of d (pos 0) (dvd-zero d)
divides_coefficient m d (t ∷ ts) h =
    let p = and_parts (divides d t.1) (divides_all d (map (λ (u : Mono × ℤ). u.1) ts)) h in
    by_divides (mono_cmp m t.0) d t.1 (coefficient m ts) p.0 (divides_coefficient m d ts p.1)

-- ---- numbers

-- 1 is one monomial
pub one_is : (m : Mono) → is_one m ≡ true → m ≡ one
one_is m h =
    sym (roll-out-Mono m) ∙ (λ i. roll-Mono (record { atoms = empty_is (out-Mono m).atoms h i }))

-- the coefficients of a sum that is a number: that of 1 is the number, all others are 0
pub record OnlyNumber (ts : List (Mono × ℤ)) (k : ℤ) : Type 0 where
  pub others : (x : Mono) → is_one x ≡ false → coefficient x ts ≡ pos 0
  pub number : coefficient one ts ≡ k

no_other : (x : Mono) (t : Mono × ℤ) → is_one t.0 ≡ true → is_one x ≡ false → (r : Ordering) →
    mono_cmp x t.0 ≡ r → found r t.1 (pos 0) ≡ pos 0
no_other x t h g Less e = refl
no_other x t h g Equal e = let no : true ≡ false = sym (ap is_one (same_mono x t.0 e) ∙ h) ∙ g in cc
no_other x t h g Greater e = refl

one_term : (t : Mono × ℤ) → is_one t.0 ≡ true → OnlyNumber (t ∷ []) t.1
one_term t h = record {
  others = λ x g. no_other x t h g (mono_cmp x t.0) refl;
  number = ap (λ x. coefficient x (t ∷ [])) (sym (one_is t.0 h)) ∙ first_coefficient t [];
}

by_number : (t : Mono × ℤ) (ts : List (Mono × ℤ)) (k : ℤ) (b : Bool) → is_number (t ∷ ts) ≡ b →
    cond b (Some t.1) None ≡ Some k → OnlyNumber (t ∷ ts) k
by_number t [] k true h e = subst (OnlyNumber (t ∷ [])) (same_Some t.1 k e) (one_term t h)
by_number t (u ∷ us) k true h e = cc
by_number t ts k false h e = cc

pub only_number : (ts : List (Mono × ℤ)) (k : ℤ) → constant_of ts ≡ Some k → OnlyNumber ts k
only_number [] k e = record { others = λ x g. refl; number = same_Some (pos 0) k e }
only_number (t ∷ ts) k e = by_number t ts k (is_number (t ∷ ts)) refl e

-- a listed sum in which only 1 has a coefficient is a number
pub record Numeral (ts : List (Mono × ℤ)) : Type 0 where
  pub value : ℤ
  pub is : constant_of ts ≡ Some value

one_first : (t : Mono × ℤ) (ts : List (Mono × ℤ)) → is_zero t.1 ≡ false →
    ((x : Mono) → is_one x ≡ false → coefficient x (t ∷ ts) ≡ pos 0) → (b : Bool) → is_one t.0 ≡ b →
    is_one t.0 ≡ true
one_first t ts n h true e = e
one_first t ts n h false e =
    let no : is_zero t.1 ≡ true = ap is_zero (sym (first_coefficient t ts) ∙ h t.0 e) in cc

same_first : (t u : Mono × ℤ) → is_one t.0 ≡ true → is_one u.0 ≡ true → mono_cmp t.0 u.0 ≡ Less → ⊥
same_first t u h g e =
    let same : t.0 ≡ u.0 = one_is t.0 h ∙ sym (one_is u.0 g) in
    let back : mono_cmp u.0 t.0 ≡ Less = (λ i. mono_cmp (sym same i) (same i)) ∙ e in
    let turned : mono_cmp u.0 t.0 ≡ Greater = mono_total.antisymm u.0 t.0 ∙ ap ordering_reverse e in
    cc

second_coefficient : (t u : Mono × ℤ) (us : List (Mono × ℤ)) → mono_cmp t.0 u.0 ≡ Less →
    coefficient u.0 (t ∷ (u ∷ us)) ≡ u.1
second_coefficient t u us e =
    ap (λ r. found r t.1 (coefficient u.0 (u ∷ us)))
    (mono_total.antisymm u.0 t.0 ∙ ap ordering_reverse e) ∙ first_coefficient u us

one_second : (t u : Mono × ℤ) (us : List (Mono × ℤ)) → mono_cmp t.0 u.0 ≡ Less → is_zero u.1 ≡
    false → ((x : Mono) → is_one x ≡ false → coefficient x (t ∷ (u ∷ us)) ≡ pos 0) → (b : Bool) →
    is_one u.0 ≡ b → is_one u.0 ≡ true
one_second t u us e n h true d = d
one_second t u us e n h false d =
    let no : is_zero u.1 ≡ true = ap is_zero (sym (second_coefficient t u us e) ∙ h u.0 d) in cc

pub numeral : (ts : List (Mono × ℤ)) → is_sparse_sorted mono_cmp ts ≡ true →
    ((x : Mono) → is_one x ≡ false → coefficient x ts ≡ pos 0) → Numeral ts
numeral [] h g = record { value = pos 0; is = refl }
numeral (t ∷ []) h g =
    let l = listed_parts mono_cmp mono_total same_mono t [] h in
    record {
      value = t.1;
      is = ap (λ b. cond b (Some t.1) None)
          (one_first t [] l.nonzero g (is_one t.0) refl);
    }
numeral (t ∷ (u ∷ us)) h g =
    let l = listed_parts mono_cmp mono_total same_mono t (u ∷ us) h in
    let r = listed_parts mono_cmp mono_total same_mono u us l.rest in
    let less = lt_is (mono_cmp t.0 u.0) (and_parts (is_lt (mono_cmp t.0 u.0))
    (is_before mono_cmp t.0 us) l.before).0 in
    absurd (same_first t u (one_first t (u ∷ us) l.nonzero g (is_one t.0) refl)
    (one_second t u us less r.nonzero g (is_one u.0) refl) less)
