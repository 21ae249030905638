-- Two sums whose terms are being moved into their sum: what is there already, and what both still
-- add to it.
use Rattle.std.proofs.Common.{◌≡◌, ◌∙◌, subst, true, false, refl, sym, Option, Some, None, List, [], ◌∷◌, ◌++◌, ℤ, ◌+ℤ◌}
use Rattle.std.proofs.lemmas.Bool.{and_parts}
use Rattle.std.specs.Vec.Iter.{into_iter_items, into_iter_steps}
use Rattle.std.specs.declared.vec.IntoIter.{IntoIter}
use Rattle.std.specs.declared.cmp.Ordering.TheVariants.{Less, Equal, Greater}
use Rattle.rx_plain.proofs.Lists.{empty_by_length}
use Rattle.rx_poly.specs.Limits.{all_fit, fits_i128, is_sum}
use Rattle.rx_poly.specs.Order.{mono_cmp}
use Rattle.rx_poly.specs.Terms.{cons_nonzero, add_terms, first_and_rest, is_sparse_sorted}
use Rattle.rx_poly.proofs.Merging.{Merging, push_last, push_left, push_right, push_both, unfit_both, merged}
use Rattle.rx_poly.specs.declared.body.Mono.{Mono}

-- a step of an iterator gives the first of what is left
pub step : {X Z : Type 0} (s : IntoIter X Z) (r : Option X) (t : IntoIter X Z) →
    into_iter_steps s r t → first_and_rest r (into_iter_items t) ≡ into_iter_items s
step s None t h = sym (empty_by_length (into_iter_items s) (sym s.rest.ok.0 ∙ h.0))
step s (Some x) t h = sym h.0

-- what of the whole is in `sum`, and what `left` and `right` still add to it
pub record Moving (sum left right whole : List (Mono × ℤ)) : Type 0 where
  pub merging : Merging sum left right whole
  pub fits : all_fit right ≡ true

pub begin : (left right : List (Mono × ℤ)) {ls rs : List (Mono × ℤ)} → ls ≡ left → rs ≡ right →
    is_sum left ≡ true → is_sum right ≡ true → Moving [] ls rs (add_terms mono_cmp left right)
begin left right {ls} {rs} l r h g =
    let p = and_parts (is_sparse_sorted mono_cmp right) (all_fit right) g in
    subst (λ xs. Moving [] xs rs (add_terms mono_cmp left right)) (sym l)
    (subst (λ ys. Moving [] left ys (add_terms mono_cmp left right)) (sym r) (record {
      merging = record { left_sum = h; right_listed = p.0; made = refl; fits = refl };
      fits = p.1;
    }))

-- what is first of both is known
pub opened : {sum whole : List (Mono × ℤ)} (ts us : List (Mono × ℤ))
    {first second f s : Option (Mono × ℤ)} → first ≡ f → second ≡ s →
    Moving sum (first_and_rest first ts) (first_and_rest second us) whole →
    Moving sum (first_and_rest f ts) (first_and_rest s us) whole
opened {sum} {whole} ts us {first} {second} {f} {s} e g m =
    subst (λ x. Moving sum (first_and_rest x ts) (first_and_rest s us) whole) e
    (subst (λ y. Moving sum (first_and_rest first ts) (first_and_rest y us) whole) g m)

-- the right sum has ended
pub after_last : {sum ts whole next ls : List (Mono × ℤ)} {t : Mono × ℤ} → next ≡ sum ++ t ∷ [] →
    ls ≡ ts → Moving sum (t ∷ ts) [] whole → Moving next ls [] whole
after_last {sum} {ts} {whole} {next} {ls} {t} n e m =
    subst (λ l. Moving next l [] whole) (sym e)
    (subst (λ xs. Moving xs ts [] whole) (sym n)
    (record { merging = push_last sum whole t ts m.merging; fits = refl }))

module _ {sum ts us whole : List (Mono × ℤ)} {t u : Mono × ℤ}
    (m : Moving sum (t ∷ ts) (u ∷ us) whole) where
  parts : (fits_i128 u.1 ≡ true) × (all_fit us ≡ true)
  parts = and_parts (fits_i128 u.1) (all_fit us) m.fits

  -- the left sum is first
  pub after_left : {next ls : List (Mono × ℤ)} → Less ≡ mono_cmp t.0 u.0 → next ≡ sum ++ t ∷ [] →
      ls ≡ ts → Moving next ls (u ∷ us) whole
  after_left {next} {ls} e n l =
      subst (λ xs. Moving next xs (u ∷ us) whole) (sym l)
      (subst (λ xs. Moving xs ts (u ∷ us) whole) (sym n)
      (record { merging = push_left sum whole t u ts us (sym e) m.merging; fits = m.fits }))

  -- the right sum is first
  pub after_right : {next rs : List (Mono × ℤ)} → Greater ≡ mono_cmp t.0 u.0 → next ≡ sum ++ u ∷
      [] → rs ≡ us → Moving next (t ∷ ts) rs whole
  after_right {next} {rs} e n r =
      subst (λ xs. Moving next (t ∷ ts) xs whole) (sym r)
      (subst (λ xs. Moving xs (t ∷ ts) us whole) (sym n)
      (record {
        merging = push_right sum whole t u ts us (sym e) parts.0 m.merging;
        fits =
            parts.1;
      }))

  -- both are of one monomial
  pub after_both : {next ls rs : List (Mono × ℤ)} → Equal ≡ mono_cmp t.0 u.0 →
      (next ≡ sum ++ cons_nonzero t.0 (t.1 +ℤ u.1) []) × (fits_i128 (t.1 +ℤ u.1) ≡ true) → ls ≡ ts →
      rs ≡
      us → Moving next ls rs whole
  after_both {next} {ls} {rs} e n l r =
      subst (λ xs. Moving next ls xs whole) (sym r) (subst (λ xs. Moving next xs us whole) (sym l)
      (subst (λ xs. Moving xs ts us whole) (sym n.0)
      (record {
        merging = push_both sum whole t u ts us (sym e) n.1 m.merging;
        fits =
            parts.1;
      })))

  -- a coefficient that leaves i128 is one of the whole
  pub no_sum : Equal ≡ mono_cmp t.0 u.0 → fits_i128 (t.1 +ℤ u.1) ≡ false → all_fit whole ≡ false
  no_sum e f = unfit_both sum whole t u ts us (sym e) f m.merging

-- the left sum has ended, so the right one is the rest
pub finished : {sum us whole next : List (Mono × ℤ)} → next ≡ sum ++ us → Moving sum [] us whole →
    (next ≡ whole) × (all_fit whole ≡ true)
finished {sum} {us} {whole} n m = let e = merged sum whole us m.merging in (n ∙ e.0, e.1 ∙ m.fits)
