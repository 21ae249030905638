-- Lists of numbers that are walked from the front: what is there, and what the rest still adds.
use Rattle.std.proofs.Common.{◌≡◌, ◌∙◌, ap, subst, Bool, true, false, ◌&&◌, refl, sym, List, [], ◌∷◌, ◌++◌, append_assoc, ℤ, ◌+ℤ◌, ◌*ℤ◌, length, arith}
use Rattle.std.proofs.lemmas.Bool.{and_left}
use Rattle.std.proofs.lemmas.List.{append-nil}
use Rattle.rx_fm.specs.Numbers.{combined, combined_within, sum_within}

-- what is there of the combined list, and what the two lists still add to it
pub record Combining (k : ℤ) (xs : List ℤ) (l : ℤ) (ys done whole : List ℤ) (within : Bool) : Type 0
  where
    pub made : done ++ combined k xs l ys ≡ whole
    pub limits : combined_within k xs l ys ≡ within

no_more : (k : ℤ) (xs : List ℤ) (l : ℤ) → (combined k xs l [] ≡ []) ×
    (combined_within k xs l [] ≡ true)
no_more k [] l = (refl, refl)
no_more k (x ∷ xs) l = (refl, refl)

no_items : (ys : List ℤ) → length ys ≡ 0 → ys ≡ []
no_items [] e = refl
no_items (y ∷ ys) e = absurd (omega arith)

module _ {k l : ℤ} {xs ys done whole : List ℤ} {within : Bool}
    (c : Combining k xs l ys done whole within) where
  -- one of the lists has ended
  pub left_ended : length xs ≡ 0 → (done ≡ whole) × (within ≡ true)
  left_ended e =
      let none = no_items xs e in (
        sym (append-nil done) ∙ ap (λ zs. done ++ combined k zs l ys) (sym none) ∙ c.made,
        sym c.limits ∙ ap (λ zs. combined_within k zs l ys) none,
      )

  pub right_ended : length ys ≡ 0 → (done ≡ whole) × (within ≡ true)
  right_ended e =
      let none = no_items ys e in
      let more = no_more k xs l in (
        sym (append-nil done) ∙ ap (λ zs. done ++ zs) (sym more.0) ∙
            ap (λ zs. done ++ combined k xs l zs) (sym none) ∙ c.made,
        sym c.limits ∙
            ap (λ zs. combined_within k xs l zs) none ∙ more.1,
      )

  module _ {x y : ℤ} {xs' ys' : List ℤ} (left_is : xs ≡ x ∷ xs') (right_is : ys ≡ y ∷ ys') where
    opened : Combining k (x ∷ xs') l (y ∷ ys') done whole within
    opened =
        subst (λ zs. Combining k zs l (y ∷ ys') done whole within) left_is
        (subst (λ zs. Combining k xs l zs done whole within) right_is c)

    pub beyond_here : sum_within k x l y ≡ false → within ≡ false
    beyond_here f =
        sym opened.limits ∙ and_left (sum_within k x l y) (combined_within k xs' l ys') f

    pub after_sum : {more : List ℤ} → sum_within k x l y ≡ true → more ≡ done ++
        (x *ℤ k +ℤ y *ℤ l) ∷ [] → Combining k xs' l ys' more whole within
    after_sum f e = record {
      made =
          ap (λ zs. zs ++ combined k xs' l ys') e ∙
          append_assoc done ((x *ℤ k +ℤ y *ℤ l) ∷ []) (combined k xs' l ys') ∙ opened.made;
      limits = ap (λ b. b && combined_within k xs' l ys') (sym f) ∙ opened.limits;
    }
