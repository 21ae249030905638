-- What a test keeps of a list.
use Rattle.std.proofs.Common.{arith, ◌≡◌, ◌∙◌, ap, sym, subst, refl, Bool, true, false, ◌⊎◌, inl, inr, cond, List, [], ◌∷◌}
use Rattle.std.specs.Prelude.{Contains, filter}
use Rattle.std.proofs.lemmas.List.Elements.{Contains-append_left, Contains-append_right, Contains-append_cases, Contains-push, Contains-push_cases}

no_element : {X : Type 0} (x : X) → Contains [] x → ⊥
no_element x (k, below, is) = omega arith

-- an element of a list is its first, or one of the others
pub first_or_other : {X : Type 0} (y : X) (ys : List X) (x : X) → Contains (y ∷ ys) x → (y ≡ x) ⊎
    Contains ys x
first_or_other y ys x h =
    elim (Contains-append_cases (y ∷ []) ys x h)
    [ inl first ↦ alone (Contains-push_cases [] y x first) | inr other ↦ inr other ] where
      alone : Contains [] x ⊎ (y ≡ x) → (y ≡ x) ⊎ Contains ys x
      alone (inl none) = absurd (no_element x none)
      alone (inr same) = inl same

-- the first is one
pub first_one : {X : Type 0} (y : X) (ys : List X) → Contains (y ∷ ys) y
first_one y ys = Contains-append_left (y ∷ []) ys y (Contains-push [] y)

-- and so are the others
pub other_one : {X : Type 0} (y : X) (ys : List X) (x : X) → Contains ys x → Contains (y ∷ ys) x
other_one y ys x h = Contains-append_right (y ∷ []) ys x h

-- an element that passes is kept
pub kept : {X : Type 0} (p : X → Bool) (xs : List X) (x : X) → Contains xs x → p x ≡ true →
    Contains (filter p xs) x
kept p [] x h passes = absurd (no_element x h)
kept p (y ∷ ys) x h passes =
    by_first (p y) refl (first_or_other y ys x h) (λ g. kept p ys x g passes) where
      by_first : (b : Bool) → p y ≡ b → (y ≡ x) ⊎ Contains ys x →
          (Contains ys x → Contains (filter p ys) x) →
          Contains (cond b (y ∷ filter p ys) (filter p ys)) x
      by_first true e (inl same) further =
          subst (Contains (y ∷ filter p ys)) same (first_one y (filter p ys))
      by_first true e (inr other) further = other_one y (filter p ys) x (further other)
      by_first false e (inl same) further =
          let wrong : false ≡ true = sym e ∙ ap p same ∙ passes in cc
      by_first false e (inr other) further = further other

-- an element that is kept was one of all
pub was_there : {X : Type 0} (p : X → Bool) (xs : List X) (x : X) → Contains (filter p xs) x →
    Contains xs x
was_there p [] x h = absurd (no_element x h)
was_there p (y ∷ ys) x h = by_first (p y) refl h (λ g. was_there p ys x g) where
  by_first : (b : Bool) → p y ≡ b → Contains (cond b (y ∷ filter p ys) (filter p ys)) x →
      (Contains (filter p ys) x → Contains ys x) → Contains (y ∷ ys) x
  by_first true e h further =
      elim (first_or_other y (filter p ys) x h) [
        | inl same ↦ subst (Contains (y ∷ ys)) same (first_one y ys)
        | inr other ↦ other_one y ys x (further other)
      ]
  by_first false e h further = other_one y ys x (further h)
