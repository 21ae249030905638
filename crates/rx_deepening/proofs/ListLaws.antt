-- The rounds of visits, one after the other.
use Rattle.std.proofs.Common.{◌≡◌, ◌∙◌, ap, refl, arith, ℕ, ◌+◌, ◌-◌, ◌<◌, []}
use Rattle.rx_deepening.specs.Keeping.{IsVisited, StandsForLists}
use Rattle.rx_deepening.specs.Counters.{begin, counted}
use Rattle.rx_deepening.specs.Views.{seen_counter}
use Rattle.rx_deepening.specs.Visits.{lists, visits}
use Rattle.rx_deepening.specs.declared.kept.Progress.{Progress}
use Rattle.rx_deepening.specs.declared.counter.Ended.TheVariants.{Going}
use Rattle.rx_deepening.specs.declared.counter.Counter.{Counter}
use Rattle.rx_deepening.specs.declared.tree.Menu.{Menu}
use Rattle.rx_deepening.specs.declared.tree.Settled.{Settled}
use Rattle.rx_deepening.proofs.KeepingLaws.{lists_same}
use Rattle.rx_deepening.proofs.WalkLaws.{list-counts}

-- nothing is kept before the first round
abbrev pub begun : {N R : Type 0} → ℕ → ℕ → Progress N R
begun budget room = record { counter = begin budget; kept = []; room = room }

module _ {N V R : Type 0} (view : N → V) (settled : V → Settled V R) (menu : V → Menu V R) where
  -- the first round is visited, and the others are left
  pub first_counts : (budget room depth : ℕ) (v : V) (p : Progress N R) →
      IsVisited view settled menu (begun budget room) (λ n. visits settled menu n [] v) p
      → counted (seen_counter view p.counter) (lists settled menu (depth - 0) 1 v) ≡
      counted (begin budget) (lists settled menu (depth + 1) 0 v)
  first_counts budget room depth v p visited =
      let some : 0 < depth + 1 = omega arith in
      let less : depth - 0 ≡ depth + 1 - 1 = omega arith in
      ap (λ n. counted (seen_counter view p.counter) (lists settled menu n 1 v)) less
      ∙ list-counts settled menu (begin budget) (seen_counter view p.counter) (depth + 1) 0 v some
      visited.counted

  -- and what is kept represents these
  pub first_stands : (budget room : ℕ) (v : V) (p : Progress N R) →
      IsVisited view settled menu (begun budget room) (λ n. visits settled menu n [] v) p
      → p.counter.ended ≡ Going → StandsForLists view settled menu p.counter.note p.kept
      (λ n. visits settled menu (n + 1) [] v)
  first_stands budget room v p visited going = visited.keeps (λ n. []) (λ _ n. refl) going

  -- one round more
  pub next_counts : (a b : Progress N R) (depth list : ℕ) (v : V) (all : Counter V R) → list < depth
      → seen_counter view b.counter ≡ counted (seen_counter view a.counter)
      (visits settled menu (0 + (list + 1)) [] v)
      → counted (seen_counter view a.counter) (lists settled menu (depth - list) (list + 1) v) ≡ all
      → counted (seen_counter view b.counter) (lists settled menu (depth - (list + 1))
      ((list + 1) + 1)
      v) ≡ all
  next_counts a b depth list v all below counts before =
      let some : 0 < depth - list = omega arith in
      let less : depth - (list + 1) ≡ (depth - list) - 1 = omega arith in
      let here : 0 + (list + 1) ≡ list + 1 = omega arith in
      ap (λ n. counted (seen_counter view b.counter) (lists settled menu n ((list + 1) + 1) v)) less
      ∙ list-counts settled menu (seen_counter view a.counter) (seen_counter view b.counter)
      (depth - list)
      (list + 1) v some
      (counts ∙ ap (λ n. counted (seen_counter view a.counter) (visits settled menu n [] v)) here)
      ∙ before

  pub next_stands : (p : Progress N R) (list : ℕ) (v : V)
      → (p.counter.ended ≡ Going → StandsForLists view settled menu p.counter.note p.kept
      (λ n. visits settled menu ((n + 1) + (list + 1)) [] v))
      → p.counter.ended ≡ Going → StandsForLists view settled menu p.counter.note p.kept
      (λ n. visits settled menu (n + ((list + 1) + 1)) [] v)
  next_stands p list v stands going =
      lists_same view settled menu p.counter.note p.kept
      (λ n. visits settled menu ((n + 1) + (list + 1)) [] v)
      (λ n. visits settled menu (n + ((list + 1) + 1)) [] v)
      (λ n. let more : (n + 1) + (list + 1) ≡ n + ((list + 1) + 1) = omega arith in
      ap (λ k. visits settled menu k [] v) more) (stands going)
