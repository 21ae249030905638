-- A normal form is determined by its coefficients.
use Rattle.std.proofs.Common.{◌≡◌, ◌∙◌, ap, subst, true, false, refl, sym, List, [], ◌∷◌, ℤ, pos}
use Rattle.std.proofs.lemmas.Bool.{and_from}
use Rattle.std.specs.Ordering.{is_lt, ordering_reverse}
use Rattle.std.specs.declared.cmp.Ordering.{Ordering}
use Rattle.std.specs.declared.cmp.Ordering.TheVariants.{Less, Equal, Greater}
use Rattle.rx_poly.proofs.ReadingLaws.{absent, itself}
use Rattle.rx_poly.specs.Normal.{is_poly}
use Rattle.rx_poly.specs.Order.{mono_cmp}
use Rattle.rx_poly.specs.Reading.{coefficient, found}
use Rattle.rx_poly.specs.Terms.{is_zero, is_before, is_sparse_sorted}
use Rattle.rx_poly.proofs.OrderLemmas.{mono_total}
use Rattle.rx_poly.proofs.PolyLaws.{poly_terms}
use Rattle.rx_poly.proofs.Same.{same_mono}
use Rattle.rx_poly.proofs.TermLaws.{before_trans, Listed, listed_parts}
use Rattle.rx_poly.specs.declared.body.Mono.{Mono}
use Rattle.rx_poly.specs.declared.body.Body.{Body, out-Body, roll-Body, roll-out-Body}

-- the first monomial has the first coefficient
pub first_coefficient : (t : Mono × ℤ) (ts : List (Mono × ℤ)) → coefficient t.0 (t ∷ ts) ≡ t.1
first_coefficient t ts = ap (λ r. found r t.1 (coefficient t.0 ts)) (itself t.0)

-- a monomial that comes first has another coefficient than 0
not_absent : (t : Mono × ℤ) (ts : List (Mono × ℤ)) → is_zero t.1 ≡ false →
    coefficient t.0 (t ∷ ts) ≡ pos 0 → ⊥
not_absent t ts n e =
    let zero : is_zero t.1 ≡ true = ap is_zero (sym (first_coefficient t ts) ∙ e) in cc

module _ (t u : Mono × ℤ) (ts us : List (Mono × ℤ)) (l : Listed mono_cmp mono_total same_mono t ts)
    (r : Listed mono_cmp mono_total same_mono u us)
    (e : (m : Mono) → coefficient m (t ∷ ts) ≡ coefficient m (u ∷ us)) where
  -- where the first monomials are one, the others have the same coefficients too
  others : t.0 ≡ u.0 → (m : Mono) (o : Ordering) → mono_cmp m t.0 ≡ o → coefficient m ts ≡
      coefficient m us
  others k m Less d =
      sym (ap (λ r. found r t.1 (coefficient m ts)) d) ∙ e m ∙
      ap (λ r. found r u.1 (coefficient m us)) (ap (mono_cmp m) (sym k) ∙ d)
  others k m Equal d =
      absent m ts (subst (λ x. is_before mono_cmp x ts ≡ true) (sym (same_mono m t.0 d)) l.before)
      ∙ sym (absent m us (subst (λ x. is_before mono_cmp x us ≡ true) (sym (same_mono m t.0 d ∙ k))
      r.before))
  others k m Greater d =
      sym (ap (λ r. found r t.1 (coefficient m ts)) d) ∙ e m ∙
      ap (λ r. found r u.1 (coefficient m us)) (ap (mono_cmp m) (sym k) ∙ d)

  by_first : (((m : Mono) → coefficient m ts ≡ coefficient m us) → ts ≡ us) → (o : Ordering) →
      mono_cmp t.0 u.0 ≡ o → t ∷ ts ≡ u ∷ us
  by_first rest Less c = absurd (not_absent t ts l.nonzero (e t.0 ∙ absent t.0 (u ∷ us)
      (and_from (is_lt (mono_cmp t.0 u.0)) (is_before mono_cmp t.0 us) (ap is_lt c)
      (before_trans mono_cmp mono_total same_mono t.0 u.0 us c r.before))))
  by_first rest Equal c =
      let k = same_mono t.0 u.0 c in
      let head : t.1 ≡ u.1 = sym (first_coefficient t ts) ∙ e t.0 ∙
      ap (λ r. found r u.1 (coefficient t.0 us)) c in
      let tail = rest (λ m. others k m (mono_cmp m t.0) refl) in
      λ i. (k i, head i) ∷ tail i
  by_first rest Greater c =
      let back : mono_cmp u.0 t.0 ≡ Less = mono_total.antisymm u.0 t.0 ∙ ap ordering_reverse c in
      absurd (not_absent u us r.nonzero (sym (e u.0) ∙ absent u.0 (t ∷ ts)
      (and_from (is_lt (mono_cmp u.0 t.0)) (is_before mono_cmp u.0 ts) (ap is_lt back)
      (before_trans mono_cmp mono_total same_mono u.0 t.0 ts back l.before))))

-- listed sums with the same coefficients are one
pub same_terms : (ts us : List (Mono × ℤ)) → is_sparse_sorted mono_cmp ts ≡ true →
    is_sparse_sorted mono_cmp us ≡
    true → ((m : Mono) → coefficient m ts ≡ coefficient m us) → ts ≡ us
same_terms [] [] h g e = refl
same_terms [] (u ∷ us) h g e =
    absurd (not_absent u us (listed_parts mono_cmp mono_total same_mono u us g).nonzero
    (sym (e u.0)))
same_terms (t ∷ ts) [] h g e =
    absurd (not_absent t ts (listed_parts mono_cmp mono_total same_mono t ts h).nonzero (e t.0))
same_terms (t ∷ ts) (u ∷ us) h g e =
    let l = listed_parts mono_cmp mono_total same_mono t ts h in
    let r = listed_parts mono_cmp mono_total same_mono u us g in
    by_first t u ts us l r e (same_terms ts us l.rest r.rest) (mono_cmp t.0 u.0) refl

-- polynomials with the same coefficients are one
pub one_polynomial : (p q : Body) → is_poly p ≡ true → is_poly q ≡ true →
    ((m : Mono) → coefficient m (out-Body p).terms ≡ coefficient m (out-Body q).terms) → p ≡ q
one_polynomial p q h g e =
    let terms = same_terms (out-Body p).terms (out-Body q).terms (poly_terms p h).listed
    (poly_terms q g).listed e in
    sym (roll-out-Body p) ∙ (λ i. roll-Body (record { terms = terms i })) ∙ roll-out-Body q
