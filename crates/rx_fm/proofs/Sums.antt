-- Weighted sums: of elements with weights, each of which has an integer as value. Nothing here
-- knows what the elements are. The double sum: where each of some elements is joined with each of
-- others, and the joint one has the value that the two have, crosswise, all together have the value
-- of the sums.
use Rattle.std.proofs.Common.{◌≡◌, ◌∙◌, ap, Bool, true, false, cond, refl, sym, List, [], ◌∷◌, ◌++◌, map, filter, ℤ, pos, negsuc, zero, suc, ℕ, ◌*◌, ◌+ℤ◌, ◌*ℤ◌, ◌≤ℤ◌, ◌<ℤ◌, neg_ℤ, int_lt, arith}
use Rattle.std.proofs.lemmas.Int.{ints}
use lib.IntN.{*ℤ_comm}
use Rattle.std.proofs.lemmas.Bool.{false_from_ne_true}
use Rattle.rx_plain.proofs.Integers.{zero-mul-int, mul-zero-int, mul-assoc-int, mul-add-int, add-mul-int, zero-add-int}
use Rattle.rx_poly.specs.Terms.{is_zero}
use Rattle.rx_poly.specs.Value.{sum_terms}
use Rattle.rx_poly.proofs.TermLaws.{zero_is}

-- ---- products

-- the first of three factors goes after the second
pub swap : (a b c : ℤ) → a *ℤ (b *ℤ c) ≡ b *ℤ (a *ℤ c)
swap a b c = sym (mul-assoc-int a b c) ∙ ap (λ z. z *ℤ c) (*ℤ_comm a b) ∙ mul-assoc-int b a c

pub product_not_negative : (a b : ℤ) → pos 0 ≤ℤ a → pos 0 ≤ℤ b → pos 0 ≤ℤ (a *ℤ b)
product_not_negative (pos a) (pos b) h g = omega (arith, ints)
product_not_negative (pos a) (negsuc b) h g = absurd (omega (arith, ints))
product_not_negative (negsuc a) b h g = absurd (omega (arith, ints))

no_product : (m n : ℕ) → suc m * suc n ≡ 0 → ⊥
no_product m n e = omega arith

pub factor_zero : (a b : ℤ) → pos 0 ≤ℤ a → pos 0 <ℤ b → a *ℤ b ≡ pos 0 → a ≡ pos 0
factor_zero (pos zero) b h g e = refl
factor_zero (pos (suc a)) (pos zero) h g e = absurd (omega (arith, ints))
factor_zero (pos (suc a)) (pos (suc b)) h g e =
    let k : suc a * suc b ≡ 0 = omega (arith, ints) in absurd (no_product a b k)
factor_zero (pos (suc a)) (negsuc b) h g e = absurd (omega (arith, ints))
factor_zero (negsuc a) b h g e = absurd (omega (arith, ints))

-- ---- the sign of a number, as three tests find it

pub data Told (z : ℤ) : Type 0 where
  known_zero : is_zero z ≡ true → int_lt (pos 0) z ≡ false → int_lt z (pos 0) ≡ false → Told z
  known_above : is_zero z ≡ false → int_lt (pos 0) z ≡ true → int_lt z (pos 0) ≡ false → Told z
  known_below : is_zero z ≡ false → int_lt (pos 0) z ≡ false → int_lt z (pos 0) ≡ true → Told z

pub told : (z : ℤ) → Told z
told (pos zero) = known_zero refl refl refl
told (pos (suc n)) =
    known_above (false_from_ne_true (is_zero (pos (suc n)))
    (λ e. let k : pos (suc n) ≡ pos 0 = zero_is (pos (suc n)) e in omega (arith, ints)))
    (grind (arith, ints)) (grind (arith, ints))
told (negsuc n) =
    known_below (false_from_ne_true (is_zero (negsuc n))
    (λ e. let k : negsuc n ≡ pos 0 = zero_is (negsuc n) e in cc)) refl refl

pub above_of : (z : ℤ) → int_lt (pos 0) z ≡ true → pos 0 <ℤ z
above_of z e = grind (arith, ints)

pub below_of : (z : ℤ) → int_lt z (pos 0) ≡ true → pos 0 <ℤ neg_ℤ z
below_of z e = let h : z <ℤ pos 0 = grind (arith, ints) in omega (arith, ints)

module _ {A : Type 0} where
  -- ---- sums

  pub sum-append : (f : A → ℤ) (ts us : List (A × ℤ)) → sum_terms f (ts ++ us) ≡
      sum_terms f ts +ℤ sum_terms f us
  sum-append f [] us = sym (zero-add-int (sum_terms f us))
  sum-append f (t ∷ ts) us = let e = sum-append f ts us in omega (arith, ints)

  -- the same elements with weights that are a multiple
  pub sum-scaled : (k : ℤ) (f : A → ℤ) (ts : List (A × ℤ)) →
      sum_terms f (map (λ (t : A × ℤ). (t.0, k *ℤ t.1)) ts) ≡ k *ℤ sum_terms f ts
  sum-scaled k f [] = sym (mul-zero-int k)
  sum-scaled k f (t ∷ ts) =
      let rest = sum-scaled k f ts in
      let one = mul-assoc-int k t.1 (f t.0) in
      let both = mul-add-int k (t.1 *ℤ f t.0) (sum_terms f ts) in
      omega (arith, ints)

  -- with reversed signs the sum has a reversed sign
  pub sum-negated : (f : A → ℤ) (ts : List (A × ℤ)) →
      sum_terms (λ x. neg_ℤ (f x)) ts +ℤ sum_terms f ts ≡ pos 0
  sum-negated f [] = refl
  sum-negated f (t ∷ ts) =
      let rest = sum-negated f ts in
      let one : t.1 *ℤ neg_ℤ (f t.0) +ℤ t.1 *ℤ f t.0 ≡ pos 0 =
      sym (mul-add-int t.1 (neg_ℤ (f t.0)) (f t.0)) ∙ ap (λ z. t.1 *ℤ z) (omega (arith, ints)) ∙
      mul-zero-int t.1 in
      omega (arith, ints)

  -- ---- what holds of each weighted element

  abbrev pub Every : (A × ℤ → Type 0) → List (A × ℤ) → Type 0
  Every P [] = Unit {0}
  Every P (t ∷ ts) = P t × Every P ts

  pub every-weaker : (P Q : A × ℤ → Type 0) (ts : List (A × ℤ)) → ((t : A × ℤ) → P t → Q t) →
      Every P ts → Every Q ts
  every-weaker P Q [] w h = tt
  every-weaker P Q (t ∷ ts) w h = (w t h.0, every-weaker P Q ts w h.1)

  pub every-append : (P : A × ℤ → Type 0) (ts us : List (A × ℤ)) → Every P ts → Every P us →
      Every P (ts ++ us)
  every-append P [] us h g = g
  every-append P (t ∷ ts) us h g = (h.0, every-append P ts us h.1 g)

  by_filter : (P : A × ℤ → Type 0) (test : A → Bool) (t : A × ℤ) (ts : List (A × ℤ)) → P t →
      Every (λ u. P u × (test u.0 ≡ true)) ts → (b : Bool) → test t.0 ≡ b →
      Every (λ u. P u × (test u.0 ≡ true)) (cond b (t ∷ ts) ts)
  by_filter P test t ts p h true e = ((p, e), h)
  by_filter P test t ts p h false e = h

  -- those that pass a test pass it, and keep what held of them
  pub every-filter : (P : A × ℤ → Type 0) (test : A → Bool) (ts : List (A × ℤ)) → Every P ts →
      Every (λ u. P u × (test u.0 ≡ true)) (filter (λ (u : A × ℤ). test u.0) ts)
  every-filter P test [] h = tt
  every-filter P test (t ∷ ts) h =
      by_filter P test t (filter (λ (u : A × ℤ). test u.0) ts) h.0 (every-filter P test ts h.1)
      (test t.0) refl

  abbrev pub NotNegative : A × ℤ → Type 0
  NotNegative t = pos 0 ≤ℤ t.1

  pub sum_zero : (f : A → ℤ) (ts : List (A × ℤ)) → Every (λ t. f t.0 ≡ pos 0) ts → sum_terms f ts ≡
      pos 0
  sum_zero f [] h = refl
  sum_zero f (t ∷ ts) h =
      let rest = sum_zero f ts h.1 in
      let one : t.1 *ℤ f t.0 ≡ pos 0 = ap (λ z. t.1 *ℤ z) h.0 ∙ mul-zero-int t.1 in
      omega (arith, ints)

  pub sum_not_negative : (f : A → ℤ) (ts : List (A × ℤ)) →
      Every (λ t. NotNegative t × (pos 0 <ℤ f t.0)) ts → pos 0 ≤ℤ sum_terms f ts
  sum_not_negative f [] h = omega (arith, ints)
  sum_not_negative f (t ∷ ts) h =
      let rest = sum_not_negative f ts h.1 in
      let one = product_not_negative t.1 (f t.0) (h.0).0 (let up = (h.0).1 in omega (arith, ints))
      in
      omega (arith, ints)

  -- where elements with values above 0 sum up to 0, all weights are 0, so any values do
  pub all_vanish : (a f : A → ℤ) (ts : List (A × ℤ)) →
      Every (λ t. NotNegative t × (pos 0 <ℤ a t.0)) ts → sum_terms a ts ≡ pos 0 → sum_terms f ts ≡
      pos 0
  all_vanish a f [] h e = refl
  all_vanish a f (t ∷ ts) h e =
      let rest = sum_not_negative a ts h.1 in
      let one = product_not_negative t.1 (a t.0) (h.0).0 (let up = (h.0).1 in omega (arith, ints))
      in
      let here : t.1 *ℤ a t.0 ≡ pos 0 = omega (arith, ints) in
      let more : sum_terms a ts ≡ pos 0 = omega (arith, ints) in
      let weight = factor_zero t.1 (a t.0) (h.0).0 (h.0).1 here in
      let worth : t.1 *ℤ f t.0 ≡ pos 0 = ap (λ z. z *ℤ f t.0) weight ∙ zero-mul-int (f t.0) in
      let others = all_vanish a f ts h.1 more in
      omega (arith, ints)

  -- ---- by the sign of a number that each has

  abbrev pub kept : (A → ℤ) → List (A × ℤ) → List (A × ℤ)
  kept a ts = filter (λ (t : A × ℤ). is_zero (a t.0)) ts

  abbrev pub above : (A → ℤ) → List (A × ℤ) → List (A × ℤ)
  above a ts = filter (λ (t : A × ℤ). int_lt (pos 0) (a t.0)) ts

  abbrev pub below : (A → ℤ) → List (A × ℤ) → List (A × ℤ)
  below a ts = filter (λ (t : A × ℤ). int_lt (a t.0) (pos 0)) ts

  with_it : (f : A → ℤ) (t : A × ℤ) (ts : List (A × ℤ)) {b : Bool} → b ≡ true →
      sum_terms f (cond b (t ∷ ts) ts) ≡ t.1 *ℤ f t.0 +ℤ sum_terms f ts
  with_it f t ts e = ap (λ b. sum_terms f (cond b (t ∷ ts) ts)) e

  without_it : (f : A → ℤ) (t : A × ℤ) (ts : List (A × ℤ)) {b : Bool} → b ≡ false →
      sum_terms f (cond b (t ∷ ts) ts) ≡ sum_terms f ts
  without_it f t ts e = ap (λ b. sum_terms f (cond b (t ∷ ts) ts)) e

  by_known : (a f : A → ℤ) (t : A × ℤ) (ts : List (A × ℤ)) → Told (a t.0) → sum_terms f ts ≡
      sum_terms f (kept a ts) +ℤ (sum_terms f (above a ts) +ℤ sum_terms f (below a ts)) →
      sum_terms f (t ∷ ts) ≡ sum_terms f (kept a (t ∷ ts)) +ℤ
      (sum_terms f (above a (t ∷ ts)) +ℤ sum_terms f (below a (t ∷ ts)))
  by_known a f t ts (known_zero z p n) e =
      let k = with_it f t (kept a ts) z in
      let u = without_it f t (above a ts) p in
      let v = without_it f t (below a ts) n in
      omega (arith, ints)
  by_known a f t ts (known_above z p n) e =
      let k = without_it f t (kept a ts) z in
      let u = with_it f t (above a ts) p in
      let v = without_it f t (below a ts) n in
      omega (arith, ints)
  by_known a f t ts (known_below z p n) e =
      let k = without_it f t (kept a ts) z in
      let u = without_it f t (above a ts) p in
      let v = with_it f t (below a ts) n in
      omega (arith, ints)

  -- each element is in one of the three
  pub sum_split : (a f : A → ℤ) (ts : List (A × ℤ)) → sum_terms f ts ≡
      sum_terms f (kept a ts) +ℤ (sum_terms f (above a ts) +ℤ sum_terms f (below a ts))
  sum_split a f [] = refl
  sum_split a f (t ∷ ts) = by_known a f t ts (told (a t.0)) (sum_split a f ts)

  -- ---- the double sum

  module _ (join : A → A → A) (factor : A → A → ℤ) where
    -- one element joined with each of others; the weights are multiplied, and by the factor of the
    -- two
    abbrev pub joined_with : A × ℤ → List (A × ℤ) → List (A × ℤ)
    joined_with p qs = map (λ (q : A × ℤ). (join p.0 q.0, (p.1 *ℤ q.1) *ℤ factor p.0 q.0)) qs

    abbrev pub joined_pairs : List (A × ℤ) → List (A × ℤ) → List (A × ℤ)
    joined_pairs [] qs = []
    joined_pairs (p ∷ ps) qs = joined_with p qs ++ joined_pairs ps qs

    module _ (a f : A → ℤ) where
      -- the joint element, times the factor, has the value that the two have, each times the
      -- other's size
      abbrev pub Crosswise : A → A → Type 0
      Crosswise p q = factor p q *ℤ f (join p q) ≡ neg_ℤ (a q) *ℤ f p +ℤ a p *ℤ f q

      abbrev turned : List (A × ℤ) → ℤ
      turned qs = sum_terms (λ x. neg_ℤ (a x)) qs

      with_sum : (p : A × ℤ) (qs : List (A × ℤ)) → Every (λ q. Crosswise p.0 q.0) qs →
          sum_terms f (joined_with p qs) ≡ p.1 *ℤ (turned qs *ℤ f p.0 +ℤ a p.0 *ℤ sum_terms f qs)
      with_sum p [] h =
          sym (ap (λ z. p.1 *ℤ z) (λ i. zero-mul-int (f p.0) i +ℤ mul-zero-int (a p.0) i) ∙
          mul-zero-int p.1)
      with_sum p (q ∷ qs) h =
          let rest = with_sum p qs h.1 in
          let cross = neg_ℤ (a q.0) *ℤ f p.0 +ℤ a p.0 *ℤ f q.0 in
          let here : ((p.1 *ℤ q.1) *ℤ factor p.0 q.0) *ℤ f (join p.0 q.0) ≡ p.1 *ℤ (q.1 *ℤ cross) =
          mul-assoc-int (p.1 *ℤ q.1) (factor p.0 q.0) (f (join p.0 q.0)) ∙
          ap (λ z. (p.1 *ℤ q.1) *ℤ z) h.0 ∙ mul-assoc-int p.1 q.1 cross in
          let apart : q.1 *ℤ cross ≡ (q.1 *ℤ neg_ℤ (a q.0)) *ℤ f p.0 +ℤ a p.0 *ℤ (q.1 *ℤ f q.0) =
          mul-add-int q.1 (neg_ℤ (a q.0) *ℤ f p.0) (a p.0 *ℤ f q.0) ∙
          (λ i. sym (mul-assoc-int q.1 (neg_ℤ (a q.0)) (f p.0)) i +ℤ swap q.1 (a p.0) (f q.0) i)
          in
          let first = add-mul-int (q.1 *ℤ neg_ℤ (a q.0)) (turned qs) (f p.0) in
          let second = mul-add-int (a p.0) (q.1 *ℤ f q.0) (sum_terms f qs) in
          let inner : q.1 *ℤ cross +ℤ (turned qs *ℤ f p.0 +ℤ a p.0 *ℤ sum_terms f qs) ≡
          turned (q ∷ qs) *ℤ f p.0 +ℤ a p.0 *ℤ sum_terms f (q ∷ qs) = omega (arith, ints) in
          let outer = sym (mul-add-int p.1 (q.1 *ℤ cross)
          (turned qs *ℤ f p.0 +ℤ a p.0 *ℤ sum_terms f qs)) ∙ ap (λ z. p.1 *ℤ z) inner in
          (λ i. here i +ℤ rest i) ∙ outer

      -- all pairs together
      pub pairs_sum : (ps qs : List (A × ℤ)) → Every (λ p. Every (λ q. Crosswise p.0 q.0) qs) ps →
          sum_terms f (joined_pairs ps qs) ≡ turned qs *ℤ sum_terms f ps +ℤ sum_terms a ps *ℤ
          sum_terms f qs
      pairs_sum [] qs h = sym (λ i. mul-zero-int (turned qs) i +ℤ zero-mul-int (sum_terms f qs) i)
      pairs_sum (p ∷ ps) qs h =
          let rest = pairs_sum ps qs h.1 in
          let here = with_sum p qs h.0 in
          let both = sum-append f (joined_with p qs) (joined_pairs ps qs) in
          let apart : p.1 *ℤ (turned qs *ℤ f p.0 +ℤ a p.0 *ℤ sum_terms f qs) ≡
          turned qs *ℤ (p.1 *ℤ f p.0) +ℤ (p.1 *ℤ a p.0) *ℤ sum_terms f qs =
          mul-add-int p.1 (turned qs *ℤ f p.0) (a p.0 *ℤ sum_terms f qs) ∙
          (λ i. swap p.1 (turned qs) (f p.0) i +ℤ sym
          (mul-assoc-int p.1 (a p.0) (sum_terms f qs)) i) in
          let first = mul-add-int (turned qs) (p.1 *ℤ f p.0) (sum_terms f ps) in
          let second = add-mul-int (p.1 *ℤ a p.0) (sum_terms a ps) (sum_terms f qs) in
          omega (arith, ints)

    -- ---- one stage

    module _ (a : A → ℤ) (ts : List (A × ℤ)) where
      -- the kept elements with a multiple of their weights, and the pairs
      abbrev pub stage_of : ℤ → List (A × ℤ)
      stage_of k =
          map (λ (t : A × ℤ). (t.0, k *ℤ t.1)) (kept a ts) ++ joined_pairs (above a ts) (below a ts)

      -- what the elements with a number above 0 have of it, all together
      abbrev pub top : ℤ
      top = sum_terms a (above a ts)

      -- by how much the weights of the kept elements grow
      abbrev pub growth : ℤ → ℤ
      growth (pos zero) = pos 1
      growth (pos (suc n)) = pos (suc n)
      growth (negsuc n) = pos 1

      pub growth_above : (z : ℤ) → pos 0 <ℤ growth z
      growth_above (pos zero) = omega (arith, ints)
      growth_above (pos (suc n)) = omega (arith, ints)
      growth_above (negsuc n) = omega (arith, ints)

      kept_zero : sum_terms a (kept a ts) ≡ pos 0
      kept_zero = sum_zero a (kept a ts)
          (every-weaker (λ t. Unit {0} × (is_zero (a t.0) ≡ true)) (λ t. a t.0 ≡ pos 0) (kept a ts)
          (λ t h. zero_is (a t.0) h.1) (every-filter (λ t. Unit {0}) (λ x. is_zero (a x)) ts
          (all_of ts)))
        where
          all_of : (us : List (A × ℤ)) → Every (λ t. Unit {0}) us
          all_of [] = tt
          all_of (u ∷ us) = (tt, all_of us)

      module _ (weights : Every NotNegative ts) (cancels : sum_terms a ts ≡ pos 0) where
        above_ones : Every (λ t. NotNegative t × (pos 0 <ℤ a t.0)) (above a ts)
        above_ones =
            every-weaker (λ t. NotNegative t × (int_lt (pos 0) (a t.0) ≡ true))
            (λ t. NotNegative t × (pos 0 <ℤ a t.0)) (above a ts)
            (λ t h. (h.0, above_of (a t.0) h.1))
            (every-filter NotNegative (λ x. int_lt (pos 0) (a x)) ts weights)

        below_ones : Every (λ t. NotNegative t × (pos 0 <ℤ neg_ℤ (a t.0))) (below a ts)
        below_ones =
            every-weaker (λ t. NotNegative t × (int_lt (a t.0) (pos 0) ≡ true))
            (λ t. NotNegative t × (pos 0 <ℤ neg_ℤ (a t.0))) (below a ts)
            (λ t h. (h.0, below_of (a t.0) h.1))
            (every-filter NotNegative (λ x. int_lt (a x) (pos 0)) ts weights)

        -- those below 0 have as much of it, as the number cancels
        both_same : sum_terms (λ x. neg_ℤ (a x)) (below a ts) ≡ top
        both_same =
            let split = sum_split a a ts in
            let none = kept_zero in
            let back = sum-negated a (below a ts) in
            omega (arith, ints)

        module _ (f : A → ℤ) (cross : Every (λ p. Every (λ q. Crosswise a f p.0 q.0) (below a ts))
            (above a ts)) where
          whole : (k : ℤ) → sum_terms f (stage_of k) ≡
              k *ℤ sum_terms f (kept a ts) +ℤ
              (top *ℤ sum_terms f (above a ts) +ℤ top *ℤ sum_terms f (below a ts))
          whole k =
              sum-append f (map (λ (t : A × ℤ). (t.0, k *ℤ t.1)) (kept a ts))
              (joined_pairs (above a ts) (below a ts))
              ∙ (λ i. sum-scaled k f (kept a ts) i +ℤ pairs_sum a f (above a ts) (below a ts) cross
              i)
              ∙ ap (λ z. k *ℤ sum_terms f (kept a ts) +ℤ
              (z *ℤ sum_terms f (above a ts) +ℤ top *ℤ sum_terms f (below a ts))) both_same

          by_top : (z : ℤ) → top ≡ z → pos 0 ≤ℤ z → sum_terms f (stage_of (growth z)) ≡
              growth z *ℤ sum_terms f ts
          by_top (pos zero) e h =
              let ups = all_vanish a f (above a ts) above_ones e in
              let downs = all_vanish (λ x. neg_ℤ (a x)) f (below a ts) below_ones (both_same ∙ e) in
              let split = sum_split a f ts in
              let same : sum_terms f ts ≡ sum_terms f (kept a ts) = omega (arith, ints) in
              whole (pos 1)
              ∙ (λ i. pos 1 *ℤ sym same i +ℤ ((top *ℤ ups i) +ℤ (top *ℤ downs i)))
              ∙ (λ i. pos 1 *ℤ sum_terms f ts +ℤ (mul-zero-int top i +ℤ mul-zero-int top i))
              ∙ omega (arith, ints)
          by_top (pos (suc n)) e h =
              let k = pos (suc n) in
              let split = sum_split a f ts in
              whole k
              ∙ (λ i. k *ℤ sum_terms f (kept a ts) +ℤ
              (e i *ℤ sum_terms f (above a ts) +ℤ e i *ℤ sum_terms f (below a ts)))
              ∙ ap (λ z. k *ℤ sum_terms f (kept a ts) +ℤ z)
              (sym (mul-add-int k (sum_terms f (above a ts)) (sum_terms f (below a ts))))
              ∙ sym (mul-add-int k (sum_terms f (kept a ts))
              (sum_terms f (above a ts) +ℤ sum_terms f (below a ts)))
              ∙ ap (λ z. k *ℤ z) (sym split)
          by_top (negsuc n) e h = absurd (omega (arith, ints))

          -- after the stage every value is the same positive multiple of what it was
          pub stage_sum : sum_terms f (stage_of (growth top)) ≡ growth top *ℤ sum_terms f ts
          stage_sum = by_top top refl (sum_not_negative a (above a ts) above_ones)
