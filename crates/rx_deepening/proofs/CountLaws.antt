-- How a counter goes on over visits.
use Rattle.std.proofs.Common.{◌≡◌, ◌∙◌, ap, refl, arith, ℕ, zero, suc, ◌-◌, ◌<◌, List, [], ◌∷◌, ◌++◌}
use Rattle.rx_deepening.specs.Counters.{counted, counted_as, counted_one, over, visited, visited_within}
use Rattle.rx_deepening.specs.Visits.{Visit}
use Rattle.rx_deepening.specs.declared.counter.Ended.{Ended}
use Rattle.rx_deepening.specs.declared.counter.Ended.TheVariants.{Going, Found, Over}
use Rattle.rx_deepening.specs.declared.counter.Counter.{Counter}

module _ {N R : Type 0} where
  -- visits after visits
  pub counted-append : (t : Counter N R) (vs ws : List (Visit N R)) → counted t (vs ++ ws) ≡
      counted (counted t vs) ws
  counted-append t [] ws = refl
  counted-append t (v ∷ vs) ws = counted-append (counted_one t v) vs ws

  -- where the visits have ended nothing is counted
  by_end : (e : Ended N) (t : Counter N R) (v : Visit N R) → (e ≡ Going → ⊥) → counted_as e t v ≡ t
  by_end Going t v h = absurd (h refl)
  by_end (Found node) t v h = refl
  by_end Over t v h = refl

  pub ended-stays : (t : Counter N R) (vs : List (Visit N R)) → (t.ended ≡ Going → ⊥) → counted t vs
      ≡
      t
  ended-stays t [] h = refl
  ended-stays t (v ∷ vs) h =
      ap (λ (u : Counter N R). counted u vs) (by_end t.ended t v h) ∙ ended-stays t vs h

  -- one visit beyond the budget ends them, whatever comes after it
  pub budget-ends : (t : Counter N R) (v : Visit N R) (vs : List (Visit N R)) → t.ended ≡ Going →
      t.left ≡ 0 → counted t (v ∷ vs) ≡ over t
  budget-ends t v vs g h =
      ap (λ (e : Ended N). counted (counted_as e t v) vs) g
      ∙ ap (λ (n : ℕ). counted (visited_within n t v) vs) h
      ∙ ended-stays (over t) vs (λ e. cc)

  -- a visit within the budget is counted
  one_less : (n : ℕ) (t : Counter N R) (v : Visit N R) → 0 < n → visited_within n t v ≡
      visited (n - 1) t v
  one_less zero t v h = absurd (omega arith)
  one_less (suc n) t v h = let less : n ≡ suc n - 1 = omega arith in ap (λ k. visited k t v) less

  pub visit-counts : (t : Counter N R) (v : Visit N R) (vs : List (Visit N R)) → t.ended ≡ Going → 0
      <
      t.left
      → counted t (v ∷ vs) ≡ counted (visited (t.left - 1) t v) vs
  visit-counts t v vs g h =
      ap (λ (e : Ended N). counted (counted_as e t v) vs) g
      ∙ ap (λ (u : Counter N R). counted u vs) (one_less t.left t v h)
