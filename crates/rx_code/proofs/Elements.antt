-- Elements of lists that are joined, and of numbered lists.
use Rattle.std.proofs.Common.{◌≡◌, sym, subst, inl, inr, ℕ, zero, suc, ◌+◌, Some, List, [], ◌∷◌, ◌++◌, map, arith}
use Rattle.std.specs.Prelude.{All, Contains, slice_get}
use Rattle.std.specs.List.{enumerate_from, flat_map}
use Rattle.std.proofs.lemmas.Option.{same_Some}
use Rattle.std.proofs.lemmas.List.Elements.{All-contains, All-contains_itself, All-weaker, Contains-append_left, Contains-append_right, Contains-append_cases}
use Rattle.rx_plain.proofs.Kept.{first_one, first_or_other, other_one}

pub no_element : {X : Type 0} (x : X) → Contains [] x → ⊥
no_element x (k, below, is) = omega arith

-- what holds of each element
pub all_from : {X : Type 0} (P : X → Type 0) (xs : List X) → ((x : X) → Contains xs x → P x) →
    All P xs
all_from P xs each = All-weaker (Contains xs) P each xs (All-contains_itself xs)

-- what holds of each element of a list holds of those of its parts
pub all_left : {X : Type 0} (P : X → Type 0) (xs ys : List X) → All P (xs ++ ys) → All P xs
all_left P xs ys all =
    all_from P xs (λ x there. All-contains P (xs ++ ys) x all (Contains-append_left xs ys x there))

pub all_right : {X : Type 0} (P : X → Type 0) (xs ys : List X) → All P (xs ++ ys) → All P ys
all_right P xs ys all =
    all_from P ys (λ x there. All-contains P (xs ++ ys) x all (Contains-append_right xs ys x there))

-- an element's list is part of the lists that are joined
pub in_flat_map : {X Y : Type 0} (f : X → List Y) (xs : List X) (x : X) (y : Y) → Contains xs x →
    Contains (f x) y → Contains (flat_map f xs) y
in_flat_map f [] x y there inside = absurd (no_element x there)
in_flat_map {X} {Y} f (z ∷ zs) x y there inside =
    elim (first_or_other z zs x there) [
      | inl same ↦ Contains-append_left (f z) (flat_map f zs) y
          (subst (λ (v : X). Contains (f v) y) (sym same) inside)
      | inr other ↦ Contains-append_right (f z) (flat_map f zs) y
          (in_flat_map f zs x y other inside)
    ]

-- and each element of these is in the list of one
pub record CameFrom {X Y : Type 0} (f : X → List Y) (xs : List X) (y : Y) : Type 0 where
  pub from : X
  pub among : Contains xs from
  pub inside : Contains (f from) y

pub from_flat_map : {X Y : Type 0} (f : X → List Y) (xs : List X) (y : Y) →
    Contains (flat_map f xs) y → CameFrom f xs y
from_flat_map f [] y there = absurd (no_element y there)
from_flat_map f (x ∷ xs) y there =
    elim (Contains-append_cases (f x) (flat_map f xs) y there) [
      | inl here ↦ record { from = x; among = first_one x xs; inside = here }
      | inr other ↦ (let rest = from_flat_map f xs y other in
          record {
            from = rest.from;
            among = other_one x xs rest.from rest.among;
            inside =
                rest.inside;
          })
    ]

-- the element of a list that is made of another list's elements
pub in_map : {X Y : Type 0} (f : X → Y) (xs : List X) (x : X) → Contains xs x →
    Contains (map f xs) (f x)
in_map f [] x there = absurd (no_element x there)
in_map {X} {Y} f (z ∷ zs) x there =
    elim (first_or_other z zs x there) [
      | inl same ↦ subst (λ (v : X). Contains (map f (z ∷ zs)) (f v)) same
          (first_one (f z) (map f zs))
      | inr other ↦ other_one (f z) (map f zs) (f x) (in_map f zs x other)
    ]

-- a numbered list
pub in_numbered : {X : Type 0} (n : ℕ) (xs : List X) (k : ℕ) (x : X) → slice_get xs k ≡ Some x →
    Contains (enumerate_from n xs) (n + k, x)
in_numbered n [] k x is = absurd cc
in_numbered {X} n (y ∷ ys) zero x is =
    let same : (n, y) ≡ (n + 0, x) = (λ i. (
      (let e : n ≡ n + 0 = omega arith in e) i,
      same_Some y x is i,
    )) in
    subst (Contains (enumerate_from n (y ∷ ys))) same (first_one (n, y) (enumerate_from (n + 1) ys))
in_numbered {X} n (y ∷ ys) (suc k) x is =
    let e : (n + 1) + k ≡ n + suc k = omega arith in
    other_one (n, y) (enumerate_from (n + 1) ys) (n + suc k, x)
    (subst (λ (m : ℕ). Contains (enumerate_from (n + 1) ys) (m, x)) e
    (in_numbered (n + 1) ys k x is))
