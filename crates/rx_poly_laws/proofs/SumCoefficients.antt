-- The coefficients of a sum, a difference and a multiple of sums.
use Rattle.std.proofs.Common.{◌≡◌, ◌∙◌, ap, subst, cond, Bool, true, false, refl, sym, List, [], ◌∷◌, ℤ, pos, ◌+ℤ◌, ◌-ℤ◌, ◌*ℤ◌, neg_ℤ, arith}
use Rattle.std.proofs.lemmas.Int.{ints}
use Rattle.std.proofs.lemmas.Bool.{and_from, and_parts, false_from_ne_true}
use Rattle.std.specs.Ordering.{is_lt, ordering_reverse}
use Rattle.std.specs.declared.cmp.Ordering.{Ordering}
use Rattle.std.specs.declared.cmp.Ordering.TheVariants.{Less, Equal, Greater}
use Rattle.rx_poly.proofs.ReadingLaws.{absent, itself}
use Rattle.rx_plain.proofs.Integers.{zero-mul-int, add-mul-int, add-zero-int, zero-add-int}
use Rattle.rx_poly.specs.Limits.{body_sum, is_small, is_within, of_terms, scaled_by, body_difference}
use Rattle.rx_poly.specs.Normal.{is_normal, is_poly}
use Rattle.rx_poly.specs.Order.{mono_cmp}
use Rattle.rx_poly.specs.Reading.{coefficient, found}
use Rattle.rx_poly.specs.Terms.{add_terms, insert_term, is_before, is_sparse_sorted, is_zero, negated, insert_by, cons_nonzero, times_number}
use Rattle.rx_poly.proofs.Levels.{terms-of_terms}
use Rattle.rx_poly.proofs.OrderLemmas.{mono_total}
use Rattle.rx_poly.proofs.PolyLaws.{keys-times_number, poly_terms, within_terms, zero_poly}
use Rattle.rx_poly.proofs.Same.{same_mono}
use Rattle.rx_poly.proofs.TermLaws.{Listed, add-both, all_keys-insert, before_trans, listed-add, listed_from, listed_parts, put_cases, zero_is}
use Rattle.rx_poly.specs.declared.body.Mono.{Mono}
use Rattle.rx_poly.specs.declared.body.Body.{Body, out-Body}

-- what one term adds to the coefficient
abbrev pub share : Mono → Mono → ℤ → ℤ
share m k c = found (mono_cmp m k) c (pos 0)

found_zero : (r : Ordering) → found r (pos 0) (pos 0) ≡ pos 0
found_zero Less = refl
found_zero Equal = refl
found_zero Greater = refl

-- ---- a term in front

by_place : (m k : Mono) (c : ℤ) (ts : List (Mono × ℤ)) → is_before mono_cmp k ts ≡ true →
    (r : Ordering) → mono_cmp m k ≡ r → found r c (coefficient m ts) ≡
    found r c (pos 0) +ℤ coefficient m ts
by_place m k c ts h Less e = sym (zero-add-int (coefficient m ts))
by_place m k c ts h Equal e =
    let none = absent m ts (subst (λ x. is_before mono_cmp x ts ≡ true) (sym (same_mono m k e)) h)
    in
    sym (add-zero-int c) ∙ ap (λ z. c +ℤ z) (sym none)
by_place m k c ts h Greater e = sym (zero-add-int (coefficient m ts))

front : (m k : Mono) (c : ℤ) (ts : List (Mono × ℤ)) → is_before mono_cmp k ts ≡ true →
    coefficient m ((k, c) ∷ ts) ≡ share m k c +ℤ coefficient m ts
front m k c ts h = by_place m k c ts h (mono_cmp m k) refl

coefficient-cons_nonzero : (m k : Mono) (c : ℤ) (ts : List (Mono × ℤ)) → is_before mono_cmp k ts ≡
    true →
    coefficient m (cons_nonzero k c ts) ≡ share m k c +ℤ coefficient m ts
coefficient-cons_nonzero m k c ts h =
    put_cases (λ us. coefficient m us ≡ share m k c +ℤ coefficient m ts) k c ts
    (λ e. let none : share m k c ≡ pos 0 = ap (share m k) (zero_is c e) ∙
    found_zero (mono_cmp m k) in omega (arith, ints))
    (λ e. front m k c ts h)

-- ---- a term inserted into a sum

share_sum : (r : Ordering) (c d : ℤ) → found r (c +ℤ d) (pos 0) ≡
    found r c (pos 0) +ℤ found r d (pos 0)
share_sum Less c d = refl
share_sum Equal c d = refl
share_sum Greater c d = refl

module _ (m k : Mono) (c : ℤ) (u : Mono × ℤ) (us : List (Mono × ℤ))
    (l : Listed mono_cmp mono_total same_mono u us) where
  by_order : (further : List (Mono × ℤ)) → coefficient m further ≡ share m k c +ℤ coefficient m us →
      (mono_cmp u.0 k ≡ Less → is_before mono_cmp u.0 further ≡ true) → (r : Ordering) →
      mono_cmp k u.0 ≡ r → coefficient m (insert_by r k c u us further) ≡
      share m k c +ℤ coefficient m (u ∷ us)
  by_order further h b Less e = coefficient-cons_nonzero m k c (u ∷ us)
      (and_from (is_lt (mono_cmp k u.0)) (is_before mono_cmp k us) (ap is_lt e)
      (before_trans mono_cmp mono_total same_mono k u.0 us e l.before))
  by_order further h b Equal e =
      let one = same_mono k u.0 e in
      let before = subst (λ x. is_before mono_cmp x us ≡ true) (sym one) l.before in
      let all = coefficient-cons_nonzero m k (c +ℤ u.1) us before in
      let both = share_sum (mono_cmp m k) c u.1 in
      let head = front m u.0 u.1 us l.before in
      let other : share m k u.1 ≡ share m u.0 u.1 = ap (λ x. share m x u.1) one in
      omega (arith, ints)
  by_order further h b Greater e =
      let head = front m u.0 u.1 further (b (mono_total.antisymm u.0 k ∙ ap ordering_reverse e)) in
      let old = front m u.0 u.1 us l.before in
      omega (arith, ints)

coefficient-insert : (m k : Mono) (c : ℤ) (us : List (Mono × ℤ)) → is_sparse_sorted mono_cmp us ≡
    true →
    coefficient m (insert_term mono_cmp k c us) ≡ share m k c +ℤ coefficient m us
coefficient-insert m k c [] h = coefficient-cons_nonzero m k c [] refl
coefficient-insert m k c (u ∷ us) h =
    let l = listed_parts mono_cmp mono_total same_mono u us h in
    by_order m k c u us l (insert_term mono_cmp k c us) (coefficient-insert m k c us l.rest)
    (λ e. all_keys-insert (λ x. is_lt (mono_cmp u.0 x)) mono_cmp k c us (ap is_lt e) l.before)
    (mono_cmp k u.0) refl

-- the coefficient in a sum is the sum of those in both
pub coefficient-add : (m : Mono) (ts us : List (Mono × ℤ)) → is_sparse_sorted mono_cmp ts ≡ true →
    is_sparse_sorted mono_cmp us ≡ true → coefficient m (add_terms mono_cmp ts us) ≡
    coefficient m ts +ℤ coefficient m us
coefficient-add m [] us h g = sym (zero-add-int (coefficient m us))
coefficient-add m (t ∷ ts) us h g =
    let l = listed_parts mono_cmp mono_total same_mono t ts h in
    let rest = coefficient-add m ts us l.rest g in
    let put_in = coefficient-insert m t.0 t.1 (add_terms mono_cmp ts us)
    (listed-add mono_cmp mono_total same_mono ts us g) in
    let head = front m t.0 t.1 ts l.before in
    omega (arith, ints)

-- ---- a multiple

share_times : (r : Ordering) (c k : ℤ) → found r (c *ℤ k) (pos 0) ≡ found r c (pos 0) *ℤ k
share_times Less c k = sym (zero-mul-int k)
share_times Equal c k = refl
share_times Greater c k = sym (zero-mul-int k)

pub coefficient-times : (m : Mono) (k : ℤ) (ts : List (Mono × ℤ)) → is_sparse_sorted mono_cmp ts ≡
    true →
    coefficient m (times_number k ts) ≡ coefficient m ts *ℤ k
coefficient-times m k [] h = sym (zero-mul-int k)
coefficient-times m k (t ∷ ts) h =
    let l = listed_parts mono_cmp mono_total same_mono t ts h in
    let rest = coefficient-times m k ts l.rest in
    let put_in = coefficient-cons_nonzero m t.0 (t.1 *ℤ k) (times_number k ts)
    (keys-times_number (λ x. is_lt (mono_cmp t.0 x)) k ts l.before) in
    let one = share_times (mono_cmp m t.0) t.1 k in
    let both = add-mul-int (share m t.0 t.1) (coefficient m ts) k in
    let head : coefficient m (t ∷ ts) *ℤ k ≡ (share m t.0 t.1 +ℤ coefficient m ts) *ℤ k =
    ap (λ z. z *ℤ k) (front m t.0 t.1 ts l.before) in
    omega (arith, ints)

-- ---- the signs reversed

share_neg : (r : Ordering) (c : ℤ) → found r (neg_ℤ c) (pos 0) ≡ neg_ℤ (found r c (pos 0))
share_neg Less c = refl
share_neg Equal c = refl
share_neg Greater c = refl

before-negated : (k : Mono) (ts : List (Mono × ℤ)) → is_before mono_cmp k ts ≡ true →
    is_before mono_cmp k (negated ts) ≡ true
before-negated k [] h = refl
before-negated k (t ∷ ts) h =
    let both = and_parts (is_lt (mono_cmp k t.0)) (is_before mono_cmp k ts) h in
    and_from (is_lt (mono_cmp k t.0)) (is_before mono_cmp k (negated ts)) both.0
    (before-negated k ts both.1)

nonzero-negated : (c : ℤ) → is_zero c ≡ false → is_zero (neg_ℤ c) ≡ false
nonzero-negated c h = false_from_ne_true (is_zero (neg_ℤ c)) (λ e.
    let zero_neg = zero_is (neg_ℤ c) e in
    let none : c ≡ pos 0 = omega (arith, ints) in
    let wrong : is_zero c ≡ true = ap is_zero none in
    cc)

listed-negated : (ts : List (Mono × ℤ)) → is_sparse_sorted mono_cmp ts ≡ true →
    is_sparse_sorted mono_cmp (negated ts) ≡ true
listed-negated [] h = refl
listed-negated (t ∷ ts) h =
    let l = listed_parts mono_cmp mono_total same_mono t ts h in
    listed_from mono_cmp mono_total same_mono (t.0, neg_ℤ t.1) (negated ts) (record {
      nonzero = nonzero-negated t.1 l.nonzero;
      before = before-negated t.0 ts l.before;
      rest = listed-negated ts l.rest;
    })

pub coefficient-negated : (m : Mono) (ts : List (Mono × ℤ)) → is_sparse_sorted mono_cmp ts ≡ true →
    coefficient m (negated ts) ≡ neg_ℤ (coefficient m ts)
coefficient-negated m [] h = refl
coefficient-negated m (t ∷ ts) h =
    let l = listed_parts mono_cmp mono_total same_mono t ts h in
    let rest = coefficient-negated m ts l.rest in
    let head = front m t.0 t.1 ts l.before in
    let back = front m t.0 (neg_ℤ t.1) (negated ts) (before-negated t.0 ts l.before) in
    let one = share_neg (mono_cmp m t.0) t.1 in
    omega (arith, ints)

-- ---- polynomials

pub coefficient-body_sum : (m : Mono) (p q : Body) → is_poly p ≡ true → is_poly q ≡ true
    → coefficient m (out-Body (body_sum p q)).terms ≡
    coefficient m (out-Body p).terms +ℤ coefficient m (out-Body q).terms
coefficient-body_sum m p q h g =
    ap (coefficient m) (terms-of_terms _) ∙ coefficient-add m (out-Body p).terms (out-Body q).terms
    (poly_terms p h).listed (poly_terms q g).listed

pub coefficient-body_difference : (m : Mono) (p q : Body) → is_poly p ≡ true → is_poly q ≡ true
    → coefficient m (out-Body (body_difference p q)).terms ≡
    coefficient m (out-Body p).terms -ℤ coefficient m (out-Body q).terms
coefficient-body_difference m p q h g =
    let sum = coefficient-add m (out-Body p).terms (negated (out-Body q).terms)
    (poly_terms p h).listed (listed-negated (out-Body q).terms (poly_terms q g).listed) in
    let other = coefficient-negated m (out-Body q).terms (poly_terms q g).listed in
    ap (coefficient m) (terms-of_terms _) ∙ omega (arith, ints)

pub coefficient-scaled_by : (m : Mono) (k : ℤ) (p : Body) → is_poly p ≡ true
    → coefficient m (out-Body (scaled_by k p)).terms ≡ coefficient m (out-Body p).terms *ℤ k
coefficient-scaled_by m k p h =
    ap (coefficient m) (terms-of_terms _) ∙ coefficient-times m k (out-Body p).terms
    (poly_terms p h).listed

-- ---- a polynomial minus itself

zero_sum : (c : ℤ) → is_zero (c +ℤ neg_ℤ c) ≡ true
zero_sum c = let none : c +ℤ neg_ℤ c ≡ pos 0 = omega (arith, ints) in ap is_zero none

nothing_left : (ts : List (Mono × ℤ)) → is_sparse_sorted mono_cmp ts ≡ true →
    add_terms mono_cmp ts (negated ts) ≡ []
nothing_left [] h = refl
nothing_left (t ∷ ts) h =
    let l = listed_parts mono_cmp mono_total same_mono t ts h in
    add-both mono_cmp mono_total same_mono t (t.0, neg_ℤ t.1) ts (negated ts) l (itself t.0)
    ∙ ap (λ (b : Bool). cond b (add_terms mono_cmp ts (negated ts))
    ((t.0, t.1 +ℤ neg_ℤ t.1) ∷ add_terms mono_cmp ts (negated ts))) (zero_sum t.1)
    ∙ nothing_left ts l.rest

pub minus_itself : (p : Body) → is_poly p ≡ true → body_difference p p ≡ of_terms []
minus_itself p h = ap of_terms (nothing_left (out-Body p).terms (poly_terms p h).listed)

-- 0 keeps the limits
pub zero_within : is_within (of_terms []) ≡ true
zero_within =
    within_terms [] ∙ (and_parts (is_normal (of_terms [])) (is_small (of_terms [])) zero_poly).1
