-- Two sums that are being merged from the front: what is there already, and what the rest still
-- adds.
use Rattle.std.proofs.Common.{◌≡◌, ◌∙◌, ap, subst, Bool, true, false, ◌&&◌, refl, sym, List, [], ◌∷◌, ◌++◌, ℤ, ◌+ℤ◌, pos, negsuc, zero, suc, length, append_assoc, arith}
use Rattle.std.proofs.lemmas.Int.{ints}
use Rattle.std.proofs.lemmas.Bool.{and_from, and_left, and_parts, and_right, false_from_ne_true}
use Rattle.std.proofs.lemmas.List.Folds.{list_all-append}
use Rattle.std.specs.Ordering.{is_lt, ordering_reverse}
use Rattle.std.specs.declared.cmp.Ordering.TheVariants.{Less, Equal, Greater}
use Rattle.rx_plain.proofs.Lists.{empty_by_length}
use Rattle.rx_poly.specs.Limits.{all_fit, fits_i128, is_sum}
use Rattle.rx_poly.specs.Order.{mono_cmp}
use Rattle.rx_poly.specs.Signs.{signed, with_sign}
use Rattle.rx_poly.specs.Terms.{cons_nonzero, is_zero, add_terms, is_before, is_sparse_sorted}
use Rattle.rx_poly.proofs.OrderLemmas.{mono_total}
use Rattle.rx_poly.proofs.Same.{same_mono}
use Rattle.rx_poly.proofs.TermLaws.{Listed, listed_parts, listed_from, before_trans, add-left, add-right, add-both, put_cases, zero_is}
use Rattle.rx_poly.specs.declared.body.Mono.{Mono}
use Rattle.rx_poly.specs.declared.sign.Sign.{Sign}
use Rattle.rx_poly.specs.declared.sign.Sign.TheVariants.{Plus, Minus}

-- a sum in which a first term is apart
pub record First (t : Mono × ℤ) (ts : List (Mono × ℤ)) : Type 0 where
  pub listed : Listed mono_cmp mono_total same_mono t ts
  pub fits : fits_i128 t.1 ≡ true
  pub rest : is_sum ts ≡ true

pub first_of : (t : Mono × ℤ) (ts : List (Mono × ℤ)) → is_sum (t ∷ ts) ≡ true → First t ts
first_of t ts h =
    let p = and_parts (is_sparse_sorted mono_cmp (t ∷ ts)) (all_fit (t ∷ ts)) h in
    let l = listed_parts mono_cmp mono_total same_mono t ts p.0 in
    let f = and_parts (fits_i128 t.1) (all_fit ts) p.1 in
    record {
      listed = l;
      fits = f.0;
      rest = and_from (is_sparse_sorted mono_cmp ts) (all_fit ts) l.rest f.1;
    }

-- what of the whole is in `sum`, and what `left` and `right` still add to it
pub record Merging (sum left right whole : List (Mono × ℤ)) : Type 0 where
  pub left_sum : is_sum left ≡ true
  pub right_listed : is_sparse_sorted mono_cmp right ≡ true
  pub made : sum ++ add_terms mono_cmp left right ≡ whole
  pub fits : all_fit sum ≡ true

module _ (sum whole : List (Mono × ℤ)) where
  fits_push : (t : Mono × ℤ) → all_fit sum ≡ true → fits_i128 t.1 ≡ true → all_fit (sum ++ t ∷ []) ≡
      true
  fits_push t h f =
      list_all-append (λ (u : Mono × ℤ). fits_i128 u.1) sum (t ∷ []) ∙
      and_from (all_fit sum) (fits_i128 t.1 && true) h (and_from (fits_i128 t.1) true f refl)

  push : (t : Mono × ℤ) (left right ts us : List (Mono × ℤ)) → add_terms mono_cmp left right ≡ t ∷
      add_terms mono_cmp ts us → is_sum ts ≡ true → is_sparse_sorted mono_cmp us ≡ true →
      fits_i128 t.1 ≡
      true → Merging sum left right whole → Merging (sum ++ t ∷ []) ts us whole
  push t left right ts us e p q f m = record {
    left_sum = p;
    right_listed = q;
    made =
        append_assoc sum (t ∷ []) (add_terms mono_cmp ts us) ∙ ap (λ xs. sum ++ xs) (sym e) ∙
        m.made;
    fits = fits_push t m.fits f;
  }

  -- the right sum has ended
  pub push_last : (t : Mono × ℤ) (ts : List (Mono × ℤ)) → Merging sum (t ∷ ts) [] whole →
      Merging (sum ++ t ∷ []) ts [] whole
  push_last t ts m =
      let a = first_of t ts m.left_sum in
      push t (t ∷ ts) [] ts [] (add-left mono_cmp mono_total same_mono t ts [] a.listed refl) a.rest
      refl a.fits m

  -- the left sum is first
  pub push_left : (t u : Mono × ℤ) (ts us : List (Mono × ℤ)) → mono_cmp t.0 u.0 ≡ Less →
      Merging sum (t ∷ ts) (u ∷ us) whole → Merging (sum ++ t ∷ []) ts (u ∷ us) whole
  push_left t u ts us e m =
      let a = first_of t ts m.left_sum in
      let b = listed_parts mono_cmp mono_total same_mono u us m.right_listed in
      let before = and_from (is_lt (mono_cmp t.0 u.0)) (is_before mono_cmp t.0 us) (ap is_lt e)
      (before_trans mono_cmp mono_total same_mono t.0 u.0 us e b.before) in
      push t (t ∷ ts) (u ∷ us) ts (u ∷ us) (add-left mono_cmp mono_total same_mono t ts (u ∷ us)
      a.listed before) a.rest m.right_listed a.fits m

  right_leads : (t u : Mono × ℤ) (ts us : List (Mono × ℤ)) → mono_cmp t.0 u.0 ≡ Greater →
      Merging sum (t ∷ ts) (u ∷ us) whole → add_terms mono_cmp (t ∷ ts) (u ∷ us) ≡ u ∷
      add_terms mono_cmp (t ∷ ts) us
  right_leads t u ts us e m =
      let a = first_of t ts m.left_sum in
      let less = mono_total.antisymm u.0 t.0 ∙ ap ordering_reverse e in
      let before = and_from (is_lt (mono_cmp u.0 t.0)) (is_before mono_cmp u.0 ts) (ap is_lt less)
      (before_trans mono_cmp mono_total same_mono u.0 t.0 ts less a.listed.before) in
      add-right mono_cmp mono_total same_mono u (t ∷ ts) us before

  -- the right sum is first
  pub push_right : (t u : Mono × ℤ) (ts us : List (Mono × ℤ)) → mono_cmp t.0 u.0 ≡ Greater →
      fits_i128 u.1 ≡ true → Merging sum (t ∷ ts) (u ∷ us) whole →
      Merging (sum ++ u ∷ []) (t ∷ ts) us whole
  push_right t u ts us e f m =
      push u (t ∷ ts) (u ∷ us) (t ∷ ts) us (right_leads t u ts us e m) m.left_sum
      (listed_parts mono_cmp mono_total same_mono u us m.right_listed).rest f m

  -- its coefficient leaves i128, and is one of the whole
  pub unfit_right : (t u : Mono × ℤ) (ts us : List (Mono × ℤ)) → mono_cmp t.0 u.0 ≡ Greater →
      fits_i128 u.1 ≡ false → Merging sum (t ∷ ts) (u ∷ us) whole → all_fit whole ≡ false
  unfit_right t u ts us e f m =
      let rest = add_terms mono_cmp (t ∷ ts) us in
      ap all_fit (sym (ap (λ xs. sum ++ xs) (sym (right_leads t u ts us e m)) ∙ m.made)) ∙
      list_all-append (λ (v : Mono × ℤ). fits_i128 v.1) sum (u ∷ rest)
      ∙ and_right (all_fit sum) (all_fit (u ∷ rest)) (and_left (fits_i128 u.1) (all_fit rest) f)

  pub put_apart : (k : Mono) (c : ℤ) (ts : List (Mono × ℤ)) → cons_nonzero k c [] ++ ts ≡
      cons_nonzero k c ts
  put_apart k c ts = by (is_zero c) refl
    where
      by : (b : Bool) → is_zero c ≡ b → cons_nonzero k c [] ++ ts ≡ cons_nonzero k c ts
      by true e = rw e refl
      by false e = rw e refl

  both_made : (t u : Mono × ℤ) (ts us : List (Mono × ℤ)) → mono_cmp t.0 u.0 ≡ Equal →
      Merging sum (t ∷ ts) (u ∷ us) whole → (sum ++ cons_nonzero t.0 (t.1 +ℤ u.1) []) ++
      add_terms mono_cmp ts us ≡ whole
  both_made t u ts us e m =
      let a = first_of t ts m.left_sum in
      append_assoc sum (cons_nonzero t.0 (t.1 +ℤ u.1) []) (add_terms mono_cmp ts us)
      ∙ ap (λ xs. sum ++ xs) (put_apart t.0 (t.1 +ℤ u.1) (add_terms mono_cmp ts us) ∙
      sym (add-both mono_cmp mono_total same_mono t u ts us a.listed e)) ∙ m.made

  fits_put : (k : Mono) (c : ℤ) → all_fit sum ≡ true → fits_i128 c ≡ true →
      all_fit (sum ++ cons_nonzero k c []) ≡ true
  fits_put k c h f =
      list_all-append (λ (u : Mono × ℤ). fits_i128 u.1) sum (cons_nonzero k c []) ∙
      and_from (all_fit sum) (all_fit (cons_nonzero k c [])) h
      (put_cases (λ us. all_fit us ≡ true) k c [] (λ _. refl)
      (λ _. and_from (fits_i128 c) true f refl))

  -- both are of one monomial
  pub push_both : (t u : Mono × ℤ) (ts us : List (Mono × ℤ)) → mono_cmp t.0 u.0 ≡ Equal →
      fits_i128 (t.1 +ℤ u.1) ≡ true → Merging sum (t ∷ ts) (u ∷ us) whole →
      Merging (sum ++ cons_nonzero t.0 (t.1 +ℤ u.1) []) ts us whole
  push_both t u ts us e f m = record {
    left_sum = (first_of t ts m.left_sum).rest;
    right_listed = (listed_parts mono_cmp mono_total same_mono u us m.right_listed).rest;
    made = both_made t u ts us e m;
    fits = fits_put t.0 (t.1 +ℤ u.1) m.fits f;
  }

  unfit_put : (k : Mono) (c : ℤ) (ts : List (Mono × ℤ)) → fits_i128 c ≡ false →
      all_fit ((sum ++ cons_nonzero k c []) ++ ts) ≡ false
  unfit_put k c ts f =
      list_all-append (λ (u : Mono × ℤ). fits_i128 u.1) (sum ++ cons_nonzero k c []) ts
      ∙ and_left (all_fit (sum ++ cons_nonzero k c [])) (all_fit ts)
      (list_all-append (λ (u : Mono × ℤ). fits_i128 u.1) sum (cons_nonzero k c [])
      ∙ and_right (all_fit sum) (all_fit (cons_nonzero k c []))
      (put_cases (λ us. all_fit us ≡ false) k c [] (λ e. none e)
      (λ _. and_left (fits_i128 c) true f)))
    where
      none : is_zero c ≡ true → true ≡ false
      none e = ap fits_i128 (sym (zero_is c e)) ∙ f

  -- a coefficient that leaves i128 is one of the whole
  pub unfit_both : (t u : Mono × ℤ) (ts us : List (Mono × ℤ)) → mono_cmp t.0 u.0 ≡ Equal →
      fits_i128 (t.1 +ℤ u.1) ≡ false → Merging sum (t ∷ ts) (u ∷ us) whole → all_fit whole ≡ false
  unfit_both t u ts us e f m =
      ap all_fit (sym (both_made t u ts us e m)) ∙
      unfit_put t.0 (t.1 +ℤ u.1) (add_terms mono_cmp ts us) f

  -- the left sum has ended, so the right one is the rest
  pub merged : (us : List (Mono × ℤ)) → Merging sum [] us whole → (sum ++ us ≡ whole) ×
      (all_fit whole ≡ all_fit us)
  merged us m = (
    m.made,
    ap all_fit (sym m.made) ∙ list_all-append (λ (u : Mono × ℤ). fits_i128 u.1) sum us ∙
        ap (λ b. b && all_fit us) m.fits,
  )

-- ---- signs

-- a number with a sign is 0 where the number is
zero_signed : (s : Sign) (c : ℤ) → is_zero c ≡ false → is_zero (signed s c) ≡ false
zero_signed Plus c h = h
zero_signed Minus (pos zero) h = h
zero_signed Minus (pos (suc n)) h =
    false_from_ne_true (is_zero (negsuc n)) (λ e. let k : negsuc n ≡ pos 0 = zero_is (negsuc n) e in cc)
zero_signed Minus (negsuc n) h =
    false_from_ne_true (is_zero (pos (suc n))) (λ e. let k : pos (suc n) ≡ pos 0 = zero_is (pos (suc n)) e in
    omega (arith, ints))

before-with_sign : (s : Sign) (k : Mono) (us : List (Mono × ℤ)) →
    is_before mono_cmp k (with_sign s us) ≡ is_before mono_cmp k us
before-with_sign s k [] = refl
before-with_sign s k (u ∷ us) = ap (λ b. is_lt (mono_cmp k u.0) && b) (before-with_sign s k us)

-- a listed sum with a sign is listed
pub listed-with_sign : (s : Sign) (us : List (Mono × ℤ)) → is_sparse_sorted mono_cmp us ≡ true →
    is_sparse_sorted mono_cmp (with_sign s us) ≡ true
listed-with_sign s [] h = refl
listed-with_sign s (u ∷ us) h =
    let l = listed_parts mono_cmp mono_total same_mono u us h in
    listed_from mono_cmp mono_total same_mono (u.0, signed s u.1) (with_sign s us)
    (record {
      nonzero = zero_signed s u.1 l.nonzero;
      before = before-with_sign s u.0 us ∙ l.before;
      rest = listed-with_sign s us l.rest;
    })

-- added, a sum is as it is
pub with_plus : (us : List (Mono × ℤ)) → with_sign Plus us ≡ us
with_plus [] = refl
with_plus (u ∷ us) = ap (λ vs. u ∷ vs) (with_plus us)

pub begin : (s : Sign) (left right : List (Mono × ℤ)) → is_sum left ≡ true → is_sum right ≡ true →
    Merging [] left (with_sign s right) (add_terms mono_cmp left (with_sign s right))
begin s left right h g = record {
  left_sum = h;
  right_listed =
      listed-with_sign s right (and_parts (is_sparse_sorted mono_cmp right) (all_fit right) g).0;
  made = refl;
  fits = refl;
}

-- ---- the same, of lists that are known to begin so, the right one with a sign

module _ (s : Sign) {sum left : List (Mono × ℤ)} (right : List (Mono × ℤ)) {whole : List (Mono × ℤ)}
    {t : Mono × ℤ} {ts : List (Mono × ℤ)} (left_is : left ≡ t ∷ ts)
    (m : Merging sum left (with_sign s right) whole) where
  at_left : (us : List (Mono × ℤ)) → with_sign s right ≡ us → Merging sum (t ∷ ts) us whole
  at_left us e =
      subst (λ l. Merging sum l us whole) left_is (subst (λ r. Merging sum left r whole) e m)

  pub after_last : {next : List (Mono × ℤ)} → length right ≡ 0 → next ≡ sum ++ t ∷ [] →
      Merging next ts (with_sign s right) whole
  after_last e n =
      let none : with_sign s right ≡ [] = ap (with_sign s) (empty_by_length right e) in
      subst (λ x. Merging x ts (with_sign s right) whole) (sym n)
      (subst (λ r. Merging (sum ++ t ∷ []) ts r whole) (sym none)
      (push_last sum whole t ts (at_left [] none)))

  module _ {u : Mono × ℤ} {us : List (Mono × ℤ)} (right_is : right ≡ u ∷ us) where
    abbrev v : Mono × ℤ
    v = (u.0, signed s u.1)

    is : with_sign s right ≡ v ∷ with_sign s us
    is = ap (with_sign s) right_is

    pub after_left : {next : List (Mono × ℤ)} → Less ≡ mono_cmp t.0 u.0 → next ≡ sum ++ t ∷ [] →
        Merging next ts (with_sign s right) whole
    after_left e n =
        subst (λ x. Merging x ts (with_sign s right) whole) (sym n)
        (subst (λ r. Merging (sum ++ t ∷ []) ts r whole) (sym is)
        (push_left sum whole t v ts (with_sign s us) (sym e) (at_left (v ∷ with_sign s us) is)))

    pub after_right : {next : List (Mono × ℤ)} → Greater ≡ mono_cmp t.0 u.0 →
        fits_i128 (signed s u.1) ≡ true → next ≡ sum ++ (u.0, signed s u.1) ∷ [] →
        Merging next left (with_sign s us) whole
    after_right e f n =
        subst (λ x. Merging x left (with_sign s us) whole) (sym n)
        (subst (λ l. Merging (sum ++ v ∷ []) l (with_sign s us) whole) (sym left_is)
        (push_right sum whole t v ts (with_sign s us) (sym e) f (at_left (v ∷ with_sign s us) is)))

    pub no_right : Greater ≡ mono_cmp t.0 u.0 → fits_i128 (signed s u.1) ≡ false → all_fit whole ≡
        false
    no_right e f =
        unfit_right sum whole t v ts (with_sign s us) (sym e) f (at_left (v ∷ with_sign s us) is)

    pub after_both : {next : List (Mono × ℤ)} → Equal ≡ mono_cmp t.0 u.0 →
        fits_i128 (t.1 +ℤ signed s u.1) ≡ true → next ≡ sum ++
        cons_nonzero t.0 (t.1 +ℤ signed s u.1) [] →
        Merging next ts (with_sign s us) whole
    after_both e f n =
        subst (λ x. Merging x ts (with_sign s us) whole) (sym n)
        (push_both sum whole t v ts (with_sign s us) (sym e) f (at_left (v ∷ with_sign s us) is))

    pub no_sum : Equal ≡ mono_cmp t.0 u.0 → fits_i128 (t.1 +ℤ signed s u.1) ≡ false →
        all_fit whole ≡ false
    no_sum e f =
        unfit_both sum whole t v ts (with_sign s us) (sym e) f (at_left (v ∷ with_sign s us) is)
