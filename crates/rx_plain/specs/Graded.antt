-- The order of `Graded`: the longer list first, and lists of one length element by element. Its
-- laws follow from the elements'.
use Rattle.std.specs.Prelude.{◌≡◌, Bool, true, false, ◌&&◌, nat_eq, List, length}
use Rattle.std.specs.Cmp.{IsPartialOrder, IsTotalOrder, Agrees, on_total, on_po, back_total, back_po, then_total, then_po, then_agrees, both_tied, partial_equiv_from_equiv, nat_cmp_total, nat_eq_equiv, on_per, unsigned_ties, unsigned_po}
use Rattle.std.specs.Cmp.Lexicographic.{pointwise, slice_cmp, slice_partial_cmp, lists_po, lists_total, lists_agrees, lists_ties, as_long}
use Rattle.std.specs.declared.cmp.Ordering.{Ordering}
use Rattle.std.specs.Ordering.{nat_cmp, ordering_then, partial_ordering_then, eq_by_cmp}
use Rattle.std.specs.Prelude.{Option, Some}
use Rattle.std.proofs.Common.{refl, sym, ◌∙◌, ap, subst, eq-eqb}

-- the longer list is `Less`; of two as long, the first difference decides
abbrev pub graded_cmp : {A B : Type 0} → (A → B → Ordering) → List A → List B → Ordering
graded_cmp R xs ys = ordering_then (nat_cmp (length ys) (length xs)) (slice_cmp R xs ys)

-- the same, where two elements may have no order
abbrev pub graded_partial_cmp : {A B : Type 0} → (A → B → Option Ordering) → List A → List B →
    Option Ordering
graded_partial_cmp C xs ys =
    partial_ordering_then (Some (nat_cmp (length ys) (length xs))) (slice_partial_cmp C xs ys)

module _ {K : Type 0} where
  -- whether two lists are as long
  abbrev same_length : List K → List K → Bool
  same_length xs ys = nat_eq (length xs) (length ys)

  -- lists whose elements are equal are as long
  both_is_one : (E : K → K → Bool) (xs ys : List K) → (same_length xs ys && pointwise E xs ys) ≡
      pointwise E xs ys
  both_is_one E xs ys = by (pointwise E xs ys) refl
    where
      absorbs : (s : Bool) → (s && false) ≡ false
      absorbs true = refl
      absorbs false = refl

      by : (b : Bool) → pointwise E xs ys ≡ b → (same_length xs ys && b) ≡ b
      by true e = ap (λ s. s && true) (eq-eqb _ _ (as_long E xs ys e))
      by false e = absorbs (same_length xs ys)

  length_order : IsPartialOrder same_length (λ xs ys. Some (nat_cmp (length ys) (length xs)))
  length_order =
      back_po (on_per length (partial_equiv_from_equiv nat_eq_equiv)) (on_po length unsigned_po)

  pub graded_order : {E : K → K → Bool} {C : K → K → Option Ordering} → IsPartialOrder E C →
      IsPartialOrder (pointwise E) (graded_partial_cmp C)
  graded_order {E} {C} o =
      subst (λ F. IsPartialOrder F (graded_partial_cmp C)) (λ i xs ys. both_is_one E xs ys i)
      (then_po length_order (lists_po o))

  pub graded_total : {R : K → K → Ordering} → IsTotalOrder R → IsTotalOrder (graded_cmp R)
  graded_total o = then_total (back_total (on_total length nat_cmp_total)) (lists_total o)

  pub graded_agrees : {C : K → K → Option Ordering} {R : K → K → Ordering} → Agrees C R →
      Agrees (graded_partial_cmp C) (graded_cmp R)
  graded_agrees {C} {R} a =
      then_agrees {C = λ xs ys. Some (nat_cmp (length ys) (length xs))}
      {R = λ xs ys. nat_cmp (length ys) (length xs)} (λ xs ys. refl) (lists_agrees a)

  pub graded_ties : {E : K → K → Bool} (R : K → K → Ordering) →
      ((x y : K) → E x y ≡ eq_by_cmp R x y) → (xs ys : List K) → pointwise E xs ys ≡
      eq_by_cmp (graded_cmp R) xs ys
  graded_ties {E} R t xs ys =
      let lengths : same_length ys xs ≡ eq_by_cmp nat_cmp (length ys) (length xs) =
      unsigned_ties (length ys) (length xs) in
      let turned : same_length xs ys ≡ same_length ys xs =
      nat_eq_equiv.symm (length xs) (length ys) in
      sym (both_is_one E xs ys) ∙ both_tied _ _ (nat_cmp (length ys) (length xs))
      (slice_cmp R xs ys) (turned ∙ lengths) (lists_ties R t xs ys)
