-- The labels of components are the first vertices that are found in them.
use Rattle.std.proofs.Common.{◌≡◌, ◌∙◌, ap, sym, refl, arith, ℕ, zero, suc, ◌+◌, ◌<◌, ◌≤◌, Bool, true, false, cond, inl, inr, Option, Some, List, [], ◌∷◌, get_or, length, map}
use Rattle.std.proofs.lemmas.Bool.{cases_order, false≢true}
use Rattle.std.specs.List.{find, range_with_len}
use Rattle.std.specs.Prelude.{unwrap_or}
use Rattle.rx_graph.specs.Components.{AreComponents, component_of, components_of}
use Rattle.rx_graph.specs.Graph.{below, leads, together}
use Rattle.rx_graph.proofs.ComponentLaws.{label_within}

-- the first number that passes is found
find_first : (p : ℕ → Bool) (a n x : ℕ) → p x ≡ true → a ≤ x → x < a + n →
    ((y : ℕ) → y < x → p y ≡ true → ⊥) → find p (range_with_len a n) ≡ Some x
find_first p a zero x is from to none = absurd (omega (arith, from, to))
find_first p a (suc n) x is from to none =
    by_test (p a) refl (λ later. find_first p (a + 1) n x is later (omega (arith, to)) none) where
      by_test : (b : Bool) → p a ≡ b → (a + 1 ≤ x → find p (range_with_len (a + 1) n) ≡ Some x) →
          cond b (Some a) (find p (range_with_len (a + 1) n)) ≡ Some x
      by_test true here further = elim (cases_order a x) [
        | inl same ↦ ap Some same
        | inr apart ↦ elim apart [
          | inl less ↦ absurd (none a less here)
          | inr more ↦ absurd (omega (arith, from, more))
        ]
      ]
      by_test false here further = elim (cases_order a x) [
        | inl same ↦ absurd (false≢true (sym here ∙ ap p same ∙ is))
        | inr apart ↦ elim apart [
          | inl less ↦ further (omega (arith, less))
          | inr more ↦ absurd (omega (arith, from, more))
        ]
      ]

-- a list is what its elements are, by place
listed : (g : ℕ → ℕ) (a n : ℕ) (xs : List ℕ) → length xs ≡ n →
    ((i : ℕ) → i < n → get_or xs i 0 ≡ g (a + i)) → xs ≡ map g (range_with_len a n)
listed g a zero [] count at = refl
listed g a zero (x ∷ xs) count at = absurd (omega (arith, count))
listed g a (suc n) [] count at = absurd (omega (arith, count))
listed g a (suc n) (x ∷ xs) count at =
    let here : a + 0 ≡ a = omega arith in
    let head : x ≡ g a = at 0 (omega arith) ∙ ap g here in
    let tail = listed g (a + 1) n xs (omega (arith, count))
    (λ i less. let there : a + suc i ≡ a + 1 + i = omega arith in at (suc i) (omega (arith, less)) ∙
    ap g there) in
    λ i. head i ∷ tail i

pub labels_computed : (n : ℕ) (edges : List (ℕ × ℕ)) →
    ((a b : ℕ) → leads edges a b ≡ true → (a < n) × (b < n)) → (labels : List ℕ) → length labels ≡ n
    → AreComponents n edges labels → labels ≡ components_of n edges
labels_computed n edges within labels count components =
    listed (component_of n edges) 0 n labels count (λ a there.
    let least = components a there in
    let low = label_within n edges within labels components a there in
    let found : find (together edges (below n) a) (range_with_len 0 n) ≡ Some (get_or labels a 0) =
    find_first (together edges (below n) a) 0 n (get_or labels a 0) least.inside (omega arith)
    (omega (arith, low))
    (λ y less is. let h = least.least y (omega (arith, less, low)) is in omega (arith, h, less)) in
    let same : 0 + a ≡ a = omega arith in
    sym (ap (λ (o : Option ℕ). unwrap_or o a) found) ∙ ap (component_of n edges) (sym same))
