-- Normal forms within the limits: their parts, when terms make one, and the sum of two.
use Rattle.std.proofs.Common.{◌≡◌, ◌∙◌, ap, subst, ℕ, Bool, true, ◌&&◌, nat_le, sum_by, refl, sym, List, [], ◌∷◌, ℤ, ◌+ℤ◌, ◌-ℤ◌, ◌*ℤ◌, neg_ℤ, ◌*◌, arith}
use Rattle.std.proofs.lemmas.Int.{ints}
use Rattle.std.specs.Ordering.{is_lt}
use lib.IntN.{*ℤ_comm}
use borrow.Author.Differences.{up, down, same_in, neg_is, product_is}
use Rattle.rx_plain.proofs.Integers.{mul-zero-int, mul-assoc-int, mul-add-int}
use Rattle.rx_poly.proofs.Merging.{listed-with_sign, with_plus}
use Rattle.rx_poly.specs.Signs.{signed, with_sign, combined}
use Rattle.rx_poly.specs.declared.sign.Sign.{Sign}
use Rattle.rx_poly.specs.declared.sign.Sign.TheVariants.{Plus, Minus}
use Rattle.std.proofs.lemmas.Bool.{and_parts, and_from}
use Rattle.std.specs.List.{list_all}
use Rattle.rx_poly.specs.Limits.{of_terms, body_sum, body_difference, scaled_by, all_fit, fits_i128, is_sum, is_small, is_within, body_size, mono_size, body_depth, mono_depth, greatest}
use Rattle.rx_poly.specs.Normal.{is_normal, is_normal_mono, is_poly}
use Rattle.rx_poly.specs.Order.{mono_cmp}
use Rattle.rx_poly.specs.Terms.{add_terms, is_sparse_sorted, all_keys, times_number}
use Rattle.rx_poly.specs.Value.{value, mono_value, sum_terms}
use Rattle.rx_poly.proofs.Levels.{terms-of_terms, value_is, is_normal_is, body_size_is, body_depth_is}
use Rattle.rx_poly.proofs.OrderLemmas.{mono_total}
use Rattle.rx_poly.proofs.Same.{same_mono}
use Rattle.rx_poly.proofs.TermLaws.{sum-add, sum-cons_nonzero, listed-add, listed-cons_nonzero, listed_parts, all_keys-add, all_keys-cons_nonzero}
use Rattle.rx_poly.specs.declared.body.Mono.{Mono}
use Rattle.rx_poly.specs.declared.body.Body.{Body, out-Body}

-- a reversed sign of one factor reverses that of the product
neg-mul-int : (c x : ℤ) → neg_ℤ c *ℤ x ≡ neg_ℤ (c *ℤ x)
neg-mul-int c x = same_in (neg_ℤ c *ℤ x) (neg_ℤ (c *ℤ x)) (omega (
  arith,
  product_is (neg_ℤ c) x,
  product_is c x,
  neg_is (c *ℤ x),
  neg_is c,
  ap (λ n. n * up x) (neg_is c).0,
  ap (λ n. n * down x) (neg_is c).0,
  ap (λ n. n * up x) (neg_is c).1,
  ap (λ n. n * down x) (neg_is c).1,
))

-- the terms of a normal form
pub record NormalTerms (ts : List (Mono × ℤ)) : Type 0 where
  pub keys : all_keys is_normal_mono ts ≡ true
  pub fits : all_fit ts ≡ true
  pub listed : is_sparse_sorted mono_cmp ts ≡ true

both_tests : (ts : List (Mono × ℤ)) → list_all
    (λ (t : Mono × ℤ). is_normal_mono t.0 && fits_i128 t.1) ts ≡ true →
    (all_keys is_normal_mono ts ≡ true) × (all_fit ts ≡ true)
both_tests [] h = (refl, refl)
both_tests (t ∷ ts) h =
    let p = and_parts (is_normal_mono t.0 && fits_i128 t.1)
    (list_all (λ (u : Mono × ℤ). is_normal_mono u.0 && fits_i128 u.1) ts) h in
    let q = and_parts (is_normal_mono t.0) (fits_i128 t.1) p.0 in
    let r = both_tests ts p.1 in (
      and_from (is_normal_mono t.0) (all_keys is_normal_mono ts) q.0 r.0,
      and_from (fits_i128 t.1) (all_fit ts) q.1 r.1,
    )

from_tests : (ts : List (Mono × ℤ)) → all_keys is_normal_mono ts ≡ true → all_fit ts ≡ true →
    list_all (λ (t : Mono × ℤ). is_normal_mono t.0 && fits_i128 t.1) ts ≡ true
from_tests [] h g = refl
from_tests (t ∷ ts) h g =
    let p = and_parts (is_normal_mono t.0) (all_keys is_normal_mono ts) h in
    let q = and_parts (fits_i128 t.1) (all_fit ts) g in
    and_from (is_normal_mono t.0 && fits_i128 t.1)
    (list_all (λ (u : Mono × ℤ). is_normal_mono u.0 && fits_i128 u.1) ts)
    (and_from (is_normal_mono t.0) (fits_i128 t.1) p.0 q.0) (from_tests ts p.1 q.1)

pub normal_terms : (b : Body) → is_normal b ≡ true → NormalTerms (out-Body b).terms
normal_terms b h =
    let p = and_parts (list_all (λ (t : Mono × ℤ). is_normal_mono t.0 && fits_i128 t.1)
    (out-Body b).terms) (is_sparse_sorted mono_cmp (out-Body b).terms) (sym (is_normal_is b) ∙ h) in
    let q = both_tests (out-Body b).terms p.0 in
    record { keys = q.0; fits = q.1; listed = p.1 }

-- terms that are normal make a normal form
pub normal_of_terms : (ts : List (Mono × ℤ)) → NormalTerms ts → is_normal (of_terms ts) ≡ true
normal_of_terms ts n =
    is_normal_is (of_terms ts)
    ∙ ap (λ us. list_all (λ (t : Mono × ℤ). is_normal_mono t.0 && fits_i128 t.1) us &&
    is_sparse_sorted mono_cmp us) (terms-of_terms ts)
    ∙ and_from (list_all (λ (t : Mono × ℤ). is_normal_mono t.0 && fits_i128 t.1) ts)
    (is_sparse_sorted mono_cmp ts) (from_tests ts n.keys n.fits) n.listed

pub poly_terms : (b : Body) → is_poly b ≡ true → NormalTerms (out-Body b).terms
poly_terms b h = normal_terms b (and_parts (is_normal b) (is_small b) h).0

-- the terms of a polynomial can be merged
pub poly_sum : (b : Body) → is_poly b ≡ true → is_sum (out-Body b).terms ≡ true
poly_sum b h =
    let n = poly_terms b h in and_from (is_sparse_sorted mono_cmp (out-Body b).terms)
    (all_fit (out-Body b).terms) n.listed n.fits

-- what keeps the limits, and what doesn't
pub within_terms : (ts : List (Mono × ℤ)) → is_within (of_terms ts) ≡
    (all_fit ts && is_small (of_terms ts))
within_terms ts = ap (λ us. all_fit us && is_small (of_terms ts)) (terms-of_terms ts)

pub value-of_terms : (a : ℕ → ℤ) (ts : List (Mono × ℤ)) → value a (of_terms ts) ≡
    sum_terms (mono_value a) ts
value-of_terms a ts = value_is a (of_terms ts) ∙ ap (sum_terms (mono_value a)) (terms-of_terms ts)

-- ---- the sum and the difference of two

keys-with_sign : (s : Sign) (test : Mono → Bool) (us : List (Mono × ℤ)) →
    all_keys test (with_sign s us) ≡ all_keys test us
keys-with_sign s test [] = refl
keys-with_sign s test (u ∷ us) = ap (λ b. test u.0 && b) (keys-with_sign s test us)

pub combined_terms : (s : Sign) (ts us : List (Mono × ℤ)) → NormalTerms ts → NormalTerms us →
    all_fit (add_terms mono_cmp ts (with_sign s us)) ≡ true →
    NormalTerms (add_terms mono_cmp ts (with_sign s us))
combined_terms s ts us n m f = record {
  keys =
      all_keys-add is_normal_mono mono_cmp ts (with_sign s us) n.keys
      (keys-with_sign s is_normal_mono us ∙ m.keys);
  fits = f;
  listed =
      listed-add mono_cmp mono_total same_mono ts (with_sign s us) (listed-with_sign s us m.listed);
}

-- added, the second polynomial is as it is
pub combined_plus : (p q : Body) → combined Plus p q ≡ body_sum p q
combined_plus p q =
    ap (λ us. of_terms (add_terms mono_cmp (out-Body p).terms us)) (with_plus (out-Body q).terms)

-- a sum with a sign has as value the number with that sign
sum-with_sign : (f : Mono → ℤ) (s : Sign) (us : List (Mono × ℤ)) → sum_terms f (with_sign s us) ≡
    signed s (sum_terms f us)
sum-with_sign f Plus us = ap (sum_terms f) (with_plus us)
sum-with_sign f Minus [] = refl
sum-with_sign f Minus (u ∷ us) =
    let rest = sum-with_sign f Minus us in
    let one : neg_ℤ u.1 *ℤ f u.0 ≡ neg_ℤ (u.1 *ℤ f u.0) = neg-mul-int u.1 (f u.0) in
    omega (arith, ints)

-- both combined have as value the numbers combined
pub value-combined : (a : ℕ → ℤ) (s : Sign) (p q : Body) → value a (combined s p q) ≡
    value a p +ℤ signed s (value a q)
value-combined a s p q =
    value-of_terms a (add_terms mono_cmp (out-Body p).terms (with_sign s (out-Body q).terms))
    ∙ sum-add (mono_value a) mono_cmp same_mono (out-Body p).terms (with_sign s (out-Body q).terms)
    ∙ (λ i. sym (value_is a p) i +ℤ (sum-with_sign (mono_value a) s (out-Body q).terms ∙
    ap (signed s) (sym (value_is a q))) i)

pub value-body_sum : (a : ℕ → ℤ) (p q : Body) → value a (body_sum p q) ≡ value a p +ℤ value a q
value-body_sum a p q = ap (value a) (sym (combined_plus p q)) ∙ value-combined a Plus p q

pub value-body_difference : (a : ℕ → ℤ) (p q : Body) → value a (body_difference p q) ≡
    value a p -ℤ value a q
value-body_difference a p q = value-combined a Minus p q ∙ omega (arith, ints)

-- the same, of lists that are known to be the terms
pub merged_normal : (s : Sign) (p q : Body) {ls rs ts : List (Mono × ℤ)} → ls ≡ (out-Body p).terms →
    rs ≡ (out-Body q).terms → ts ≡ add_terms mono_cmp ls (with_sign s rs) → is_poly p ≡ true →
    is_poly q ≡ true → all_fit (add_terms mono_cmp ls (with_sign s rs)) ≡ true →
    is_normal (of_terms ts) ≡ true
merged_normal s p q {ls} {rs} {ts} left_is right_is made h g f =
    ap (λ xs. is_normal (of_terms xs)) made
    ∙ normal_of_terms _ (combined_terms s ls rs (subst NormalTerms (sym left_is) (poly_terms p h))
    (subst NormalTerms (sym right_is) (poly_terms q g)) f)

-- the same where nothing has a sign
pub added_normal : (p q : Body) {ls rs ts : List (Mono × ℤ)} → ls ≡ (out-Body p).terms → rs ≡
    (out-Body q).terms → ts ≡ add_terms mono_cmp ls rs → is_poly p ≡ true → is_poly q ≡ true →
    all_fit (add_terms mono_cmp ls rs) ≡ true → is_normal (of_terms ts) ≡ true
added_normal p q {ls} {rs} {ts} left_is right_is made h g f =
    let same : add_terms mono_cmp ls (with_sign Plus rs) ≡ add_terms mono_cmp ls rs =
    ap (add_terms mono_cmp ls) (with_plus rs) in
    merged_normal Plus p q left_is right_is (made ∙ sym same) h g (ap all_fit same ∙ f)

-- ---- one times a number

pub keys-times_number : (test : Mono → Bool) (k : ℤ) (ts : List (Mono × ℤ)) → all_keys test ts ≡
    true → all_keys test (times_number k ts) ≡ true
keys-times_number test k [] h = refl
keys-times_number test k (t ∷ ts) h =
    let p = and_parts (test t.0) (all_keys test ts) h in
    all_keys-cons_nonzero test t.0 (t.1 *ℤ k) (times_number k ts) p.0
    (keys-times_number test k ts p.1)

pub listed-times_number : (k : ℤ) (ts : List (Mono × ℤ)) → is_sparse_sorted mono_cmp ts ≡ true →
    is_sparse_sorted mono_cmp (times_number k ts) ≡ true
listed-times_number k [] h = refl
listed-times_number k (t ∷ ts) h =
    let l = listed_parts mono_cmp mono_total same_mono t ts h in
    listed-cons_nonzero mono_cmp mono_total same_mono t.0 (t.1 *ℤ k) (times_number k ts)
    (keys-times_number (λ x. is_lt (mono_cmp t.0 x)) k ts l.before)
    (listed-times_number k ts l.rest)

sum-times_number : (f : Mono → ℤ) (k : ℤ) (ts : List (Mono × ℤ)) → sum_terms f (times_number k ts) ≡
    k *ℤ sum_terms f ts
sum-times_number f k [] = sym (mul-zero-int k)
sum-times_number f k (t ∷ ts) =
    sum-cons_nonzero f t.0 (t.1 *ℤ k) (times_number k ts)
    ∙ (λ i. (ap (λ n. n *ℤ f t.0) (*ℤ_comm t.1 k) ∙ mul-assoc-int k t.1 (f t.0)) i +ℤ
    sum-times_number f k ts i)
    ∙ sym (mul-add-int k (t.1 *ℤ f t.0) (sum_terms f ts))

pub value-scaled_by : (a : ℕ → ℤ) (k : ℤ) (p : Body) → value a (scaled_by k p) ≡ k *ℤ value a p
value-scaled_by a k p =
    value-of_terms a (times_number k (out-Body p).terms) ∙
    sum-times_number (mono_value a) k (out-Body p).terms ∙ ap (λ n. k *ℤ n) (sym (value_is a p))

pub multiple_normal : (k : ℤ) (p : Body) {ls ts : List (Mono × ℤ)} → ls ≡ (out-Body p).terms → ts ≡
    times_number k ls → is_poly p ≡ true → all_fit (times_number k ls) ≡ true →
    is_normal (of_terms ts) ≡ true
multiple_normal k p {ls} {ts} is made h f =
    let n = subst NormalTerms (sym is) (poly_terms p h) in
    ap (λ xs. is_normal (of_terms xs)) made
    ∙ normal_of_terms (times_number k ls) (record {
      keys = keys-times_number is_normal_mono k ls n.keys;
      fits = f;
      listed =
          listed-times_number k ls n.listed;
    })

-- ---- terms that make a polynomial within the limits

pub size-of_terms : (ts : List (Mono × ℤ)) → body_size (of_terms ts) ≡
    sum_by (λ (t : Mono × ℤ). mono_size t.0) ts
size-of_terms ts =
    body_size_is (of_terms ts) ∙ ap (sum_by (λ (t : Mono × ℤ). mono_size t.0)) (terms-of_terms ts)

pub depth-of_terms : (ts : List (Mono × ℤ)) → body_depth (of_terms ts) ≡
    greatest (λ (t : Mono × ℤ). mono_depth t.0) ts
depth-of_terms ts =
    body_depth_is (of_terms ts) ∙ ap (greatest (λ (t : Mono × ℤ). mono_depth t.0))
    (terms-of_terms ts)

pub poly_of_terms : (ts : List (Mono × ℤ)) → NormalTerms ts → is_small (of_terms ts) ≡ true →
    is_poly (of_terms ts) ≡ true
poly_of_terms ts n h =
    and_from (is_normal (of_terms ts)) (is_small (of_terms ts)) (normal_of_terms ts n) h

-- 0 is a polynomial
pub zero_poly : is_poly (of_terms []) ≡ true
zero_poly = poly_of_terms [] (record { keys = refl; fits = refl; listed = refl })
    (λ i. nat_le (size-of_terms [] i) 4096 && nat_le (depth-of_terms [] i) 64)
