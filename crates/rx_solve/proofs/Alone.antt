-- A variable with coefficient 1 or -1 is taken away: its term goes, so nothing passes the limits.
use Rattle.std.proofs.Common.{◌≡◌, ◌∙◌, ap, subst, sym, refl, cond, arith, ℕ, ◌≤◌, nat_le, sum_by, Bool, true, false, List, [], ◌∷◌, ℤ, pos, negsuc, ◌+ℤ◌}
use Rattle.std.proofs.lemmas.Bool.{and_from, and_parts}
use Rattle.std.proofs.lemmas.List.Sums.{sum_by-cons}
use Rattle.std.specs.List.{list_all}
use Rattle.std.specs.Ordering.{is_lt, ordering_reverse}
use Rattle.std.specs.declared.cmp.Ordering.{Ordering}
use Rattle.std.specs.declared.cmp.Ordering.TheVariants.{Less, Equal, Greater}
use Rattle.rx_plain.proofs.Naturals.{limit_kept}
use Rattle.rx_poly.proofs.Levels.{body_depth_is, body_size_is, terms-of_terms}
use Rattle.rx_poly.proofs.OrderLemmas.{mono_total}
use Rattle.rx_poly.proofs.PolyLaws.{depth-of_terms, poly_terms, size-of_terms, within_terms}
use Rattle.rx_poly.proofs.Same.{same_mono}
use Rattle.rx_poly.proofs.TermLaws.{listed_parts, lt_is, cons_nonzero-nonzero}
use Rattle.rx_poly.specs.Constants.{variable}
use Rattle.rx_poly.specs.Limits.{body_sum, all_fit, body_depth, body_size, fits_i128, greatest, is_small, is_within, mono_depth, mono_size, of_atoms, of_terms, body_difference}
use Rattle.rx_poly.specs.Normal.{is_normal, is_poly}
use Rattle.rx_poly.specs.Order.{mono_cmp}
use Rattle.rx_poly.specs.Reading.{coefficient, found}
use Rattle.rx_poly.specs.Terms.{add_terms, insert_term, is_before, is_sparse_sorted, is_zero, negated, insert_by}
use Rattle.rx_poly.specs.declared.body.Atom.TheVariants.{Var}
use Rattle.rx_poly.specs.declared.body.Mono.{Mono}
use Rattle.rx_poly.specs.declared.body.Body.{Body, out-Body}
use Rattle.rx_cert.specs.Elimination.{coefficient_of}

-- a term that comes before all others is added first
insert_first : (t : Mono × ℤ) (us : List (Mono × ℤ)) → is_zero t.1 ≡ false →
    is_before mono_cmp t.0 us ≡ true → insert_term mono_cmp t.0 t.1 us ≡ t ∷ us
insert_first t [] z h = cons_nonzero-nonzero t.0 t.1 [] z
insert_first t (u ∷ us) z h =
    let less = lt_is (mono_cmp t.0 u.0) (and_parts (is_lt (mono_cmp t.0 u.0))
    (is_before mono_cmp t.0 us) h).0 in
    ap (λ r. insert_by r t.0 t.1 u us (insert_term mono_cmp t.0 t.1 us)) less ∙
    cons_nonzero-nonzero t.0 t.1 (u ∷ us) z

-- the terms without that of the monomial
abbrev pub removed_by : Ordering → Mono × ℤ → List (Mono × ℤ) → List (Mono × ℤ) → List (Mono × ℤ)
removed_by Less t ts rest = t ∷ rest
removed_by Equal t ts rest = ts
removed_by Greater t ts rest = t ∷ rest

abbrev pub removed : Mono → List (Mono × ℤ) → List (Mono × ℤ)
removed k [] = []
removed k (t ∷ ts) = removed_by (mono_cmp k t.0) t ts (removed k ts)

removed_all : (p : Mono × ℤ → Bool) (k : Mono) (ts : List (Mono × ℤ)) → list_all p ts ≡ true →
    list_all p (removed k ts) ≡ true
removed_all p k [] h = refl
removed_all p k (t ∷ ts) h = by (mono_cmp k t.0) (removed_all p k ts parts.1)
  where
    parts : (p t ≡ true) × (list_all p ts ≡ true)
    parts = and_parts (p t) (list_all p ts) h

    by : (r : Ordering) → list_all p (removed k ts) ≡ true →
        list_all p (removed_by r t ts (removed k ts)) ≡ true
    by Less g = and_from (p t) (list_all p (removed k ts)) parts.0 g
    by Equal g = parts.1
    by Greater g = and_from (p t) (list_all p (removed k ts)) parts.0 g

module _ (k : Mono) (d : ℤ) where
  put_after : (ts : List (Mono × ℤ)) → is_sparse_sorted mono_cmp ts ≡ true →
      is_before mono_cmp k ts ≡
      true → add_terms mono_cmp ts ((k, d) ∷ []) ≡ (k, d) ∷ ts
  put_after [] l h = refl
  put_after (t ∷ ts) l h =
      let p = listed_parts mono_cmp mono_total same_mono t ts l in
      let q = and_parts (is_lt (mono_cmp k t.0)) (is_before mono_cmp k ts) h in
      let greater : mono_cmp t.0 k ≡ Greater = mono_total.antisymm t.0 k ∙
      ap ordering_reverse (lt_is (mono_cmp k t.0) q.0) in
      ap (insert_term mono_cmp t.0 t.1) (put_after ts p.rest q.1)
      ∙ ap (λ r. insert_by r t.0 t.1 (k, d) ts (insert_term mono_cmp t.0 t.1 ts)) greater
      ∙ ap (λ us. (k, d) ∷ us) (insert_first t ts p.nonzero p.before)

  cancel_by : (t : Mono × ℤ) (ts : List (Mono × ℤ)) (c : ℤ) → is_sparse_sorted mono_cmp (t ∷ ts) ≡
      true →
      c +ℤ d ≡ pos 0 →
      (coefficient k ts ≡ c → add_terms mono_cmp ts ((k, d) ∷ []) ≡ removed k ts) → (r : Ordering) →
      mono_cmp k t.0 ≡ r → found r t.1 (coefficient k ts) ≡ c →
      insert_term mono_cmp t.0 t.1 (add_terms mono_cmp ts ((k, d) ∷ [])) ≡
      removed_by r t ts (removed k ts)
  cancel_by t ts c l zero rest Less e f =
      let p = listed_parts mono_cmp mono_total same_mono t ts l in
      ap (insert_term mono_cmp t.0 t.1) (rest f) ∙
      insert_first t (removed k ts) p.nonzero
      (removed_all (λ u. is_lt (mono_cmp t.0 u.0)) k ts p.before)
  cancel_by t ts c l zero rest Equal e f =
      let p = listed_parts mono_cmp mono_total same_mono t ts l in
      let same : k ≡ t.0 = same_mono k t.0 e in
      let equal : mono_cmp t.0 k ≡ Equal = mono_total.antisymm t.0 k ∙ ap ordering_reverse e in
      let none : is_zero (t.1 +ℤ d) ≡ true = ap is_zero (ap (λ z. z +ℤ d) f ∙ zero) in
      ap (insert_term mono_cmp t.0 t.1) (put_after ts p.rest
      (subst (λ m. is_before mono_cmp m ts ≡ true) (sym same) p.before))
      ∙ ap (λ r. insert_by r t.0 t.1 (k, d) ts (insert_term mono_cmp t.0 t.1 ts)) equal
      ∙ ap (λ b. cond b ts ((t.0, t.1 +ℤ d) ∷ ts)) none
  cancel_by t ts c l zero rest Greater e f =
      let p = listed_parts mono_cmp mono_total same_mono t ts l in
      ap (insert_term mono_cmp t.0 t.1) (rest f) ∙
      insert_first t (removed k ts) p.nonzero
      (removed_all (λ u. is_lt (mono_cmp t.0 u.0)) k ts p.before)

  -- a term is cancelled by its opposite
  cancel : (ts : List (Mono × ℤ)) (c : ℤ) → is_sparse_sorted mono_cmp ts ≡ true → c +ℤ d ≡ pos 0 →
      (c ≡ pos 0 → ⊥) → coefficient k ts ≡ c → add_terms mono_cmp ts ((k, d) ∷ []) ≡ removed k ts
  cancel [] c l zero n f = absurd (n (sym f))
  cancel (t ∷ ts) c l zero n f =
      cancel_by t ts c l zero (cancel ts c (listed_parts mono_cmp mono_total same_mono t ts l).rest
      zero n) (mono_cmp k t.0) refl f

-- ---- the limits

removed_size : (k : Mono) (ts : List (Mono × ℤ)) →
    sum_by (λ (t : Mono × ℤ). mono_size t.0) (removed k ts) ≤
    sum_by (λ (t : Mono × ℤ). mono_size t.0) ts
removed_size k [] = omega arith
removed_size k (t ∷ ts) = by (mono_cmp k t.0) (removed_size k ts)
  where
    by : (r : Ordering) → sum_by (λ (t : Mono × ℤ). mono_size t.0) (removed k ts) ≤
        sum_by (λ (t : Mono × ℤ). mono_size t.0) ts →
        sum_by (λ (t : Mono × ℤ). mono_size t.0) (removed_by r t ts (removed k ts)) ≤
        sum_by (λ (t : Mono × ℤ). mono_size t.0) (t ∷ ts)
    by Less g =
        let a = sum_by-cons (λ (t : Mono × ℤ). mono_size t.0) t ts in let b =
        sum_by-cons (λ (t : Mono × ℤ). mono_size t.0) t (removed k ts) in omega (arith, a, b, g)
    by Equal g = let a = sum_by-cons (λ (t : Mono × ℤ). mono_size t.0) t ts in omega (arith, a)
    by Greater g =
        let a = sum_by-cons (λ (t : Mono × ℤ). mono_size t.0) t ts in let b =
        sum_by-cons (λ (t : Mono × ℤ). mono_size t.0) t (removed k ts) in omega (arith, a, b, g)

removed_depth : (k : Mono) (ts : List (Mono × ℤ)) →
    greatest (λ (t : Mono × ℤ). mono_depth t.0) (removed k ts) ≤
    greatest (λ (t : Mono × ℤ). mono_depth t.0) ts
removed_depth k [] = omega arith
removed_depth k (t ∷ ts) = by (mono_cmp k t.0) (removed_depth k ts)
  where
    by : (r : Ordering) → greatest (λ (t : Mono × ℤ). mono_depth t.0) (removed k ts) ≤
        greatest (λ (t : Mono × ℤ). mono_depth t.0) ts →
        greatest (λ (t : Mono × ℤ). mono_depth t.0) (removed_by r t ts (removed k ts)) ≤
        greatest (λ (t : Mono × ℤ). mono_depth t.0) (t ∷ ts)
    by Less g = omega (arith, g)
    by Equal g = omega arith
    by Greater g = omega (arith, g)

-- what is left of a polynomial without one of its terms keeps the limits
removed_within : (k : Mono) (p : Body) → is_poly p ≡ true →
    is_within (of_terms (removed k (out-Body p).terms)) ≡ true
removed_within k p h =
    let ts = (out-Body p).terms in
    let us = removed k ts in
    let small = and_parts (nat_le (body_size p) 4096) (nat_le (body_depth p) 64)
    (and_parts (is_normal p) (is_small p) h).1 in
    let size : body_size (of_terms us) ≤ body_size p =
    subst (λ n. n ≤ body_size p) (sym (size-of_terms us))
    (subst (λ n. sum_by (λ (t : Mono × ℤ). mono_size t.0) us ≤ n) (sym (body_size_is p))
    (removed_size k ts)) in
    let depth : body_depth (of_terms us) ≤ body_depth p =
    subst (λ n. n ≤ body_depth p) (sym (depth-of_terms us))
    (subst (λ n. greatest (λ (t : Mono × ℤ). mono_depth t.0) us ≤ n) (sym (body_depth_is p))
    (removed_depth k ts)) in
    within_terms us
    ∙ and_from (all_fit us) (is_small (of_terms us))
    (removed_all (λ t. fits_i128 t.1) k ts (poly_terms p h).fits)
    (and_from (nat_le (body_size (of_terms us)) 4096) (nat_le (body_depth (of_terms us)) 64)
    (limit_kept (body_size (of_terms us)) (body_size p) 4096 size small.0)
    (limit_kept (body_depth (of_terms us)) (body_depth p) 64 depth small.1))

module _ (x : ℕ) (p : Body) (poly : is_poly p ≡ true) where
  abbrev alone : Mono
  alone = of_atoms (Var x ∷ [])

  variable_terms : (out-Body (variable x)).terms ≡ (alone, pos 1) ∷ []
  variable_terms = terms-of_terms ((alone, pos 1) ∷ [])

  -- where the coefficient is 1 the variable may be subtracted
  pub plus_within : coefficient_of x p ≡ pos 1 → is_within (body_difference p (variable x)) ≡ true
  plus_within one =
      ap (λ us. is_within (of_terms (add_terms mono_cmp (out-Body p).terms (negated us))))
      variable_terms
      ∙ ap (λ us. is_within (of_terms us)) (cancel alone (negsuc 0) (out-Body p).terms (pos 1)
      (poly_terms p poly).listed refl (λ e. cc) one)
      ∙ removed_within alone p poly

  -- and added where it is -1
  pub minus_within : coefficient_of x p ≡ negsuc 0 → is_within (body_sum p (variable x)) ≡ true
  minus_within one =
      ap (λ us. is_within (of_terms (add_terms mono_cmp (out-Body p).terms us))) variable_terms
      ∙ ap (λ us. is_within (of_terms us)) (cancel alone (pos 1) (out-Body p).terms (negsuc 0)
      (poly_terms p poly).listed refl (λ e. cc) one)
      ∙ removed_within alone p poly
