-- Lists: which are empty, tests that all elements pass, and where an element is.
use Rattle.std.proofs.Common.{◌≡◌, ◌∙◌, ap, sym, refl, ℕ, zero, suc, ◌+◌, ◌<◌, Bool, true, false, cond, Some, List, [], ◌∷◌, ◌++◌, length, take, slice_get, arith}
use Rattle.std.specs.List.{list_all, position_from}
use Rattle.std.proofs.lemmas.Bool.{and_from, and_parts}
use Rattle.std.proofs.lemmas.Option.{none-some, same_Some}

-- a list without elements
pub empty_by_length : {X : Type 0} (xs : List X) → length xs ≡ 0 → xs ≡ []
empty_by_length [] e = refl
empty_by_length (x ∷ xs) e = absurd (omega (arith, e))

-- where all pass a test, the first ones do
pub all_taken : {X : Type 0} (p : X → Bool) (n : ℕ) (xs : List X) → list_all p xs ≡ true →
    list_all p (take n xs) ≡ true
all_taken p zero xs h = refl
all_taken p (suc n) [] h = refl
all_taken p (suc n) (x ∷ xs) h =
    let both = and_parts (p x) (list_all p xs) h in
    and_from (p x) (list_all p (take n xs)) both.0 (all_taken p n xs both.1)

-- and, with one more that passes, all do
pub all_pushed : {X : Type 0} (p : X → Bool) (xs : List X) (x : X) → list_all p xs ≡ true →
    p x ≡ true → list_all p (xs ++ x ∷ []) ≡ true
all_pushed p [] x h g = and_from (p x) true g refl
all_pushed p (y ∷ ys) x h g =
    let both = and_parts (p y) (list_all p ys) h in
    and_from (p y) (list_all p (ys ++ x ∷ [])) both.0 (all_pushed p ys x both.1 g)

-- and each of them does
pub all_at : {X : Type 0} (p : X → Bool) (xs : List X) (i : ℕ) (x : X) → list_all p xs ≡ true →
    slice_get xs i ≡ Some x → p x ≡ true
all_at p [] i x h there = absurd (none-some x there)
all_at p (y ∷ ys) zero x h there =
    ap p (sym (same_Some y x there)) ∙ (and_parts (p y) (list_all p ys) h).0
all_at p (y ∷ ys) (suc i) x h there =
    all_at p ys i x (and_parts (p y) (list_all p ys) h).1 there

-- there is an element at each place within
pub element_within : {X : Type 0} (xs : List X) (i : ℕ) → i < length xs → (x : X) ×
    (slice_get xs i ≡ Some x)
element_within [] i h = absurd (omega (arith, h))
element_within (x ∷ xs) zero h = (x, refl)
element_within (x ∷ xs) (suc i) h = element_within xs i (omega (arith, h))

-- a place that is found is one within
pub position_within : {X : Type 0} (p : X → Bool) (i : ℕ) (xs : List X) (k : ℕ) →
    position_from p i xs ≡ Some k → k < i + length xs
position_within p i [] k is = absurd (none-some k is)
position_within p i (x ∷ xs) k is =
    elim (p x) as (λ b. cond b (Some i) (position_from p (i + 1) xs) ≡ Some k → k < i +
    length (x ∷ xs)) [
      | true ↦ (λ e. let h : i ≡ k = cc in omega (arith, h))
      | false ↦ (λ e. let h = position_within p (i + 1) xs k e in omega (arith, h))
    ] is
