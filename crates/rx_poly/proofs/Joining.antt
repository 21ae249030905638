-- Two sorted lists of atoms that are being joined from the front: what is there already, and what
-- the rest still adds.
use Rattle.std.proofs.Common.{◌≡◌, ◌∙◌, ap, subst, true, false, refl, sym, List, [], ◌∷◌, ◌++◌, length, append_assoc}
use Rattle.std.specs.Ordering.{is_gt}
use Rattle.rx_plain.proofs.Lists.{empty_by_length}
use Rattle.rx_poly.specs.Normal.{is_sorted}
use Rattle.rx_poly.specs.Order.{atom_cmp}
use Rattle.rx_poly.specs.Products.{join_sorted}
use Rattle.rx_poly.proofs.OrderLemmas.{atom_total}
use Rattle.rx_poly.proofs.SortedLaws.{sorted_parts, join-left, join-right, before_all, not_after_all}
use Rattle.rx_poly.specs.declared.body.Atom.{Atom}

-- what of the whole is in `joined`, and what the two lists still add to it
pub record Joining (joined xs ys whole : List Atom) : Type 0 where
  pub xs_sorted : is_sorted atom_cmp xs ≡ true
  pub ys_sorted : is_sorted atom_cmp ys ≡ true
  pub made : joined ++ join_sorted atom_cmp xs ys ≡ whole

module _ (joined whole : List Atom) where
  push : (z : Atom) (xs ys us vs : List Atom) → join_sorted atom_cmp xs ys ≡ z ∷
      join_sorted atom_cmp us vs → is_sorted atom_cmp us ≡ true → is_sorted atom_cmp vs ≡ true →
      Joining joined xs ys whole → Joining (joined ++ z ∷ []) us vs whole
  push z xs ys us vs e p q j = record {
    xs_sorted = p;
    ys_sorted = q;
    made =
        append_assoc joined (z ∷ []) (join_sorted atom_cmp us vs) ∙
        ap (λ zs. joined ++ zs) (sym e) ∙ j.made;
  }

  push_last : (x : Atom) (xs : List Atom) → Joining joined (x ∷ xs) [] whole →
      Joining (joined ++ x ∷ []) xs [] whole
  push_last x xs j =
      let s = sorted_parts atom_cmp atom_total x xs j.xs_sorted in
      push x (x ∷ xs) [] xs [] (join-left atom_cmp atom_total x xs [] s refl) s.rest refl j

  push_left : (x y : Atom) (xs ys : List Atom) → is_gt (atom_cmp x y) ≡ false →
      Joining joined (x ∷ xs) (y ∷ ys) whole → Joining (joined ++ x ∷ []) xs (y ∷ ys) whole
  push_left x y xs ys e j =
      let s = sorted_parts atom_cmp atom_total x xs j.xs_sorted in
      let t = sorted_parts atom_cmp atom_total y ys j.ys_sorted in
      push x (x ∷ xs) (y ∷ ys) xs (y ∷ ys) (join-left atom_cmp atom_total x xs (y ∷ ys) s
      (not_after_all atom_cmp atom_total x y ys e t)) s.rest j.ys_sorted j

  push_right : (x y : Atom) (xs ys : List Atom) → is_gt (atom_cmp x y) ≡ true →
      Joining joined (x ∷ xs) (y ∷ ys) whole → Joining (joined ++ y ∷ []) (x ∷ xs) ys whole
  push_right x y xs ys e j =
      let s = sorted_parts atom_cmp atom_total x xs j.xs_sorted in
      let t = sorted_parts atom_cmp atom_total y ys j.ys_sorted in
      push y (x ∷ xs) (y ∷ ys) (x ∷ xs) ys (join-right atom_cmp atom_total y (x ∷ xs) ys
      (before_all atom_cmp atom_total y x xs e s)) j.xs_sorted t.rest j

-- ---- the same, of lists that are known to begin so

module _ {joined xs ys whole : List Atom} {x : Atom} {xs' : List Atom} (xs_is : xs ≡ x ∷ xs')
    (j : Joining joined xs ys whole) where
  at_both : (vs : List Atom) → ys ≡ vs → Joining joined (x ∷ xs') vs whole
  at_both vs e =
      subst (λ l. Joining joined l vs whole) xs_is (subst (λ r. Joining joined xs r whole) e j)

  pub after_last : {next : List Atom} → length ys ≡ 0 → next ≡ joined ++ x ∷ [] →
      Joining next xs' ys whole
  after_last e n =
      subst (λ s. Joining s xs' ys whole) (sym n)
      (subst (λ r. Joining (joined ++ x ∷ []) xs' r whole) (sym (empty_by_length ys e))
      (push_last joined whole x xs' (at_both [] (empty_by_length ys e))))

  module _ {y : Atom} {ys' : List Atom} (ys_is : ys ≡ y ∷ ys') where
    pub after_left : {next : List Atom} → is_gt (atom_cmp x y) ≡ false → next ≡ joined ++ x ∷ [] →
        Joining next xs' ys whole
    after_left e n =
        subst (λ s. Joining s xs' ys whole) (sym n)
        (subst (λ r. Joining (joined ++ x ∷ []) xs' r whole) (sym ys_is)
        (push_left joined whole x y xs' ys' e (at_both (y ∷ ys') ys_is)))

    pub after_right : {next : List Atom} → is_gt (atom_cmp x y) ≡ true → next ≡ joined ++ y ∷ [] →
        Joining next xs ys' whole
    after_right e n =
        subst (λ s. Joining s xs ys' whole) (sym n)
        (subst (λ l. Joining (joined ++ y ∷ []) l ys' whole) (sym xs_is)
        (push_right joined whole x y xs' ys' e (at_both (y ∷ ys') ys_is)))
