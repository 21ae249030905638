-- Laws of listed sums: what a term that is inserted adds, that a sum stays listed, and how two sums
-- are merged from the front.
use Rattle.std.proofs.Common.{◌≡◌, ◌∙◌, ap, subst, Bool, true, false, not, ◌&&◌, cond, refl, sym, List, [], ◌∷◌, ℤ, pos, ◌+ℤ◌, ◌*ℤ◌, arith}
use Rattle.std.proofs.lemmas.Int.{ints}
use Rattle.std.proofs.lemmas.Bool.{and_from, and_parts, not-true}
use Rattle.std.specs.Cmp.{IsTotalOrder, signed_Decides}
use Rattle.std.specs.Ordering.{is_lt, ordering_reverse}
use Rattle.std.specs.declared.cmp.Ordering.{Ordering}
use Rattle.std.specs.declared.cmp.Ordering.TheVariants.{Less, Equal, Greater}
use Rattle.rx_plain.proofs.Integers.{zero-mul-int, add-mul-int}
use Rattle.rx_poly.specs.Terms.{is_zero, cons_nonzero, insert_by, insert_term, add_terms, is_before, is_sparse_sorted, all_keys}
use Rattle.rx_poly.specs.Value.{sum_terms}

-- a test that answers `Less` has seen `Less`
pub lt_is : (r : Ordering) → is_lt r ≡ true → r ≡ Less
lt_is Less e = refl
lt_is Equal e = cc
lt_is Greater e = cc

pub zero_is : (c : ℤ) → is_zero c ≡ true → c ≡ pos 0
zero_is c e = (signed_Decides c (pos 0)).0 e

module _ {K : Type 0} where
  -- ---- a term in front

  by_put : (P : List (K × ℤ) → Type 0) (k : K) (c : ℤ) (ts : List (K × ℤ)) →
      (is_zero c ≡ true → P ts) → (is_zero c ≡ false → P ((k, c) ∷ ts)) → (b : Bool) → is_zero c ≡
      b → P (cond b ts ((k, c) ∷ ts))
  by_put P k c ts f g true e = f e
  by_put P k c ts f g false e = g e

  -- a term in front is there, or it is 0 and isn't
  pub put_cases : (P : List (K × ℤ) → Type 0) (k : K) (c : ℤ) (ts : List (K × ℤ)) →
      (is_zero c ≡ true → P ts) → (is_zero c ≡ false → P ((k, c) ∷ ts)) → P (cons_nonzero k c ts)
  put_cases P k c ts f g = by_put P k c ts f g (is_zero c) refl

  pub cons_nonzero-nonzero : (k : K) (c : ℤ) (ts : List (K × ℤ)) → is_zero c ≡ false →
      cons_nonzero k c ts ≡ (k, c) ∷
      ts
  cons_nonzero-nonzero k c ts e = ap (λ b. cond b ts ((k, c) ∷ ts)) e

  -- ---- the keys of a sum come from its parts

  pub all_keys-cons_nonzero : (test : K → Bool) (k : K) (c : ℤ) (ts : List (K × ℤ)) → test k ≡
      true →
      all_keys test ts ≡ true → all_keys test (cons_nonzero k c ts) ≡ true
  all_keys-cons_nonzero test k c ts h g =
      put_cases (λ us. all_keys test us ≡ true) k c ts (λ _. g)
      (λ _. and_from (test k) (all_keys test ts) h g)

  all_keys-insert_by : (test : K → Bool) (r : Ordering) (k : K) (c : ℤ) (u : K × ℤ)
      (us further : List (K × ℤ)) → test k ≡ true → test u.0 ≡ true → all_keys test us ≡ true →
      all_keys test further ≡ true → all_keys test (insert_by r k c u us further) ≡ true
  all_keys-insert_by test Less k c u us further h g w f =
      all_keys-cons_nonzero test k c (u ∷ us) h (and_from (test u.0) (all_keys test us) g w)
  all_keys-insert_by test Equal k c u us further h g w f =
      all_keys-cons_nonzero test k (c +ℤ u.1) us h w
  all_keys-insert_by test Greater k c u us further h g w f =
      and_from (test u.0) (all_keys test further) g f

  pub all_keys-insert : (test : K → Bool) (R : K → K → Ordering) (k : K) (c : ℤ) (us : List (K × ℤ))
      → test k ≡ true → all_keys test us ≡ true → all_keys test (insert_term R k c us) ≡ true
  all_keys-insert test R k c [] h g = all_keys-cons_nonzero test k c [] h refl
  all_keys-insert test R k c (u ∷ us) h g =
      let parts = and_parts (test u.0) (all_keys test us) g in
      all_keys-insert_by test (R k u.0) k c u us (insert_term R k c us) h parts.0 parts.1
      (all_keys-insert test R k c us h parts.1)

  pub all_keys-add : (test : K → Bool) (R : K → K → Ordering) (ts us : List (K × ℤ)) →
      all_keys test ts ≡ true → all_keys test us ≡ true → all_keys test (add_terms R ts us) ≡ true
  all_keys-add test R [] us h g = g
  all_keys-add test R (t ∷ ts) us h g =
      let parts = and_parts (test t.0) (all_keys test ts) h in
      all_keys-insert test R t.0 t.1 (add_terms R ts us) parts.0
      (all_keys-add test R ts us parts.1 g)

  -- what one test passes, a weaker one passes
  pub all_keys-weaker : (p q : K → Bool) (ts : List (K × ℤ)) → ((x : K) → p x ≡ true → q x ≡ true) →
      all_keys p ts ≡ true → all_keys q ts ≡ true
  all_keys-weaker p q [] w h = refl
  all_keys-weaker p q (t ∷ ts) w h =
      let parts = and_parts (p t.0) (all_keys p ts) h in
      and_from (q t.0) (all_keys q ts) (w t.0 parts.0) (all_keys-weaker p q ts w parts.1)

  -- ---- the value of a sum

  pub sum-cons_nonzero : (f : K → ℤ) (k : K) (c : ℤ) (ts : List (K × ℤ)) →
      sum_terms f (cons_nonzero k c ts) ≡
      c *ℤ f k +ℤ sum_terms f ts
  sum-cons_nonzero f k c ts = put_cases (λ us. sum_terms f us ≡ c *ℤ f k +ℤ sum_terms f ts) k c ts
      (λ e. let nothing : c *ℤ f k ≡ pos 0 = (λ i. zero_is c e i *ℤ f k) ∙ zero-mul-int (f k) in
      omega (arith, ints))
      (λ _. refl)

  sum-insert_by : (f : K → ℤ) (R : K → K → Ordering) (same : (x y : K) → R x y ≡ Equal → x ≡ y)
      (k : K)
      (c : ℤ) (u : K × ℤ) (us further : List (K × ℤ)) → sum_terms f further ≡
      c *ℤ f k +ℤ sum_terms f us → (r : Ordering) → R k u.0 ≡ r →
      sum_terms f (insert_by r k c u us further) ≡ c *ℤ f k +ℤ (u.1 *ℤ f u.0 +ℤ sum_terms f us)
  sum-insert_by f R same k c u us further h Less e = sum-cons_nonzero f k c (u ∷ us)
  sum-insert_by f R same k c u us further h Equal e =
      let one : f k ≡ f u.0 = ap f (same k u.0 e) in
      let split : (c +ℤ u.1) *ℤ f k ≡ c *ℤ f k +ℤ u.1 *ℤ f u.0 = add-mul-int c u.1 (f k) ∙
      (λ i. c *ℤ f k +ℤ u.1 *ℤ one i) in
      let whole = sum-cons_nonzero f k (c +ℤ u.1) us in
      omega (arith, ints)
  sum-insert_by f R same k c u us further h Greater e = omega (arith, ints)

  -- a term that is inserted adds its value
  pub sum-insert : (f : K → ℤ) (R : K → K → Ordering) (same : (x y : K) → R x y ≡ Equal → x ≡ y)
      (k : K) (c : ℤ) (us : List (K × ℤ)) → sum_terms f (insert_term R k c us) ≡
      c *ℤ f k +ℤ sum_terms f us
  sum-insert f R same k c [] = sum-cons_nonzero f k c []
  sum-insert f R same k c (u ∷ us) =
      sum-insert_by f R same k c u us (insert_term R k c us) (sum-insert f R same k c us) (R k u.0)
      refl

  -- the sum of two sums has the value of both together
  pub sum-add : (f : K → ℤ) (R : K → K → Ordering) (same : (x y : K) → R x y ≡ Equal → x ≡ y)
      (ts us : List (K × ℤ)) → sum_terms f (add_terms R ts us) ≡ sum_terms f ts +ℤ sum_terms f us
  sum-add f R same [] us = omega (arith, ints)
  sum-add f R same (t ∷ ts) us =
      let put_in = sum-insert f R same t.0 t.1 (add_terms R ts us) in
      let rest = sum-add f R same ts us in
      omega (arith, ints)

  -- ---- under a total order whose equal keys are one

  module _ (R : K → K → Ordering) (o : IsTotalOrder R) (same : (x y : K) → R x y ≡ Equal → x ≡ y)
    where
      turned : (x y : K) → R x y ≡ Less → R y x ≡ Greater
      turned x y e = o.antisymm y x ∙ ap ordering_reverse e

      back : (x y : K) → R x y ≡ Greater → R y x ≡ Less
      back x y e = o.antisymm y x ∙ ap ordering_reverse e

      -- what comes before a key comes before all after it
      pub before_trans : (j k : K) (us : List (K × ℤ)) → R j k ≡ Less → is_before R k us ≡ true →
          is_before R j us ≡ true
      before_trans j k us e h =
          all_keys-weaker (λ x. is_lt (R k x)) (λ x. is_lt (R j x)) us
          (λ x g. ap is_lt (o.trans j k x e (lt_is (R k x) g))) h

      pub listed-cons_nonzero : (k : K) (c : ℤ) (ts : List (K × ℤ)) → is_before R k ts ≡ true →
          is_sparse_sorted R ts ≡ true → is_sparse_sorted R (cons_nonzero k c ts) ≡ true
      listed-cons_nonzero k c ts h g =
          put_cases (λ us. is_sparse_sorted R us ≡ true) k c ts (λ _. g)
          (λ e. and_from (not (is_zero c)) (is_before R k ts && is_sparse_sorted R ts) (ap not e)
          (and_from (is_before R k ts) (is_sparse_sorted R ts) h g))

      -- the three facts of a listed sum that has a first term
      pub record Listed (t : K × ℤ) (ts : List (K × ℤ)) : Type 0 where
        pub nonzero : is_zero t.1 ≡ false
        pub before : is_before R t.0 ts ≡ true
        pub rest : is_sparse_sorted R ts ≡ true

      pub listed_parts : (t : K × ℤ) (ts : List (K × ℤ)) → is_sparse_sorted R (t ∷ ts) ≡ true →
          Listed t ts
      listed_parts t ts h =
          let p = and_parts (not (is_zero t.1)) (is_before R t.0 ts && is_sparse_sorted R ts) h in
          let q = and_parts (is_before R t.0 ts) (is_sparse_sorted R ts) p.1 in
          record { nonzero = not-true (is_zero t.1) p.0; before = q.0; rest = q.1 }

      pub listed_from : (t : K × ℤ) (ts : List (K × ℤ)) → Listed t ts →
          is_sparse_sorted R (t ∷ ts) ≡ true
      listed_from t ts l =
          and_from (not (is_zero t.1)) (is_before R t.0 ts && is_sparse_sorted R ts)
          (ap not l.nonzero)
          (and_from (is_before R t.0 ts) (is_sparse_sorted R ts) l.before l.rest)

      listed-insert_by : (k : K) (c : ℤ) (u : K × ℤ) (us : List (K × ℤ)) → Listed u us →
          is_sparse_sorted R (insert_term R k c us) ≡ true → (r : Ordering) → R k u.0 ≡ r →
          is_sparse_sorted R (insert_by r k c u us (insert_term R k c us)) ≡ true
      listed-insert_by k c u us l h Less e =
          listed-cons_nonzero k c (u ∷ us) (and_from (is_lt (R k u.0)) (is_before R k us)
          (ap is_lt e)
          (before_trans k u.0 us e l.before)) (listed_from u us l)
      listed-insert_by k c u us l h Equal e =
          listed-cons_nonzero k (c +ℤ u.1) us
          (subst (λ x. is_before R x us ≡ true) (sym (same k u.0 e))
          l.before) l.rest
      listed-insert_by k c u us l h Greater e =
          listed_from u (insert_term R k c us) (record {
            nonzero = l.nonzero;
            before = all_keys-insert (λ x. is_lt (R u.0 x)) R k c us
                (ap is_lt (back k u.0 e)) l.before;
            rest = h;
          })

      -- a listed sum stays listed where a term is inserted
      pub listed-insert : (k : K) (c : ℤ) (us : List (K × ℤ)) → is_sparse_sorted R us ≡ true →
          is_sparse_sorted R (insert_term R k c us) ≡ true
      listed-insert k c [] h = listed-cons_nonzero k c [] refl refl
      listed-insert k c (u ∷ us) h =
          let l = listed_parts u us h in listed-insert_by k c u us l (listed-insert k c us l.rest)
          (R k u.0) refl

      -- the sum of two listed sums is listed
      pub listed-add : (ts us : List (K × ℤ)) → is_sparse_sorted R us ≡ true →
          is_sparse_sorted R (add_terms R ts us) ≡ true
      listed-add [] us h = h
      listed-add (t ∷ ts) us h = listed-insert t.0 t.1 (add_terms R ts us) (listed-add ts us h)

      -- ---- merging from the front

      insert-before : (k : K) (c : ℤ) (us : List (K × ℤ)) → is_before R k us ≡ true →
          insert_term R k c us ≡ cons_nonzero k c us
      insert-before k c [] h = refl
      insert-before k c (u ∷ us) h =
          ap (λ r. insert_by r k c u us (insert_term R k c us))
          (lt_is (R k u.0) (and_parts (is_lt (R k u.0)) (is_before R k us) h).0)

      -- a first term of the left sum that comes before all others leads the sum
      pub add-left : (t : K × ℤ) (ts us : List (K × ℤ)) → Listed t ts → is_before R t.0 us ≡ true →
          add_terms R (t ∷ ts) us ≡ t ∷ add_terms R ts us
      add-left t ts us l h =
          insert-before t.0 t.1 (add_terms R ts us)
          (all_keys-add (λ x. is_lt (R t.0 x)) R ts us l.before h) ∙
          cons_nonzero-nonzero t.0 t.1 (add_terms R ts us) l.nonzero

      -- so does such a term of the right sum
      pub add-right : (u : K × ℤ) (ts us : List (K × ℤ)) → is_before R u.0 ts ≡ true →
          add_terms R ts (u ∷ us) ≡ u ∷ add_terms R ts us
      add-right u [] us h = refl
      add-right u (t ∷ ts) us h =
          let p = and_parts (is_lt (R u.0 t.0)) (is_before R u.0 ts) h in
          ap (insert_term R t.0 t.1) (add-right u ts us p.1)
          ∙ ap (λ r. insert_by r t.0 t.1 u (add_terms R ts us)
          (insert_term R t.0 t.1 (add_terms R ts us))) (turned u.0 t.0 (lt_is (R u.0 t.0) p.0))

      -- two first terms of one key are added
      pub add-both : (t u : K × ℤ) (ts us : List (K × ℤ)) → Listed t ts → R t.0 u.0 ≡ Equal →
          add_terms R (t ∷ ts) (u ∷ us) ≡ cons_nonzero t.0 (t.1 +ℤ u.1) (add_terms R ts us)
      add-both t u ts us l e =
          ap (insert_term R t.0 t.1) (add-right u ts us
          (subst (λ x. is_before R x ts ≡ true) (same t.0 u.0 e) l.before))
          ∙ ap (λ r. insert_by r t.0 t.1 u (add_terms R ts us)
          (insert_term R t.0 t.1 (add_terms R ts us))) e
