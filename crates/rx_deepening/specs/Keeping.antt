-- What is kept of a tree from one round of visits to the next: the visited nodes in preorder, where
-- an expanded node is a bare mark and a leaf has its node. It represents the rounds to come: the
-- visits of each are, node by node, the one visit of an expanded node, and those from a leaf on.
use Rattle.std.specs.Prelude.{◌≡◌, ℕ, ◌+◌, ◌<◌, false, Option, List, [], ◌∷◌, ◌++◌}
use Rattle.std.specs.Option.{option_or}
use Rattle.rx_deepening.specs.Outcomes.{note_of}
use Rattle.rx_deepening.specs.Counters.{counted}
use Rattle.rx_deepening.specs.Views.{seen_counter}
use Rattle.rx_deepening.specs.Visits.{Visit, alone, choosing, visits_of}
use Rattle.rx_deepening.specs.declared.kept.Kept.{Kept}
use Rattle.rx_deepening.specs.declared.kept.Kept.TheVariants.{Expanded, Frontier}
use Rattle.rx_deepening.specs.declared.kept.Leaf.{Leaf}
use Rattle.rx_deepening.specs.declared.kept.Progress.{Progress}
use Rattle.rx_deepening.specs.declared.outcome.Note.{Note}
use Rattle.rx_deepening.specs.declared.counter.Ended.TheVariants.{Going}
use Rattle.rx_deepening.specs.declared.tree.Menu.{Menu}
use Rattle.rx_deepening.specs.declared.tree.Settled.{Settled}

-- a note at the visit isn't the first: there is none, or there is one already
abbrev pub IsAfterNote : {V R : Type 0} → Option (Note R) → Visit V R → Type 0
IsAfterNote first v = option_or first (note_of v) ≡ first

module _ {V R : Type 0} (settled : V → Settled V R) (menu : V → Menu V R) where
  -- the visits from a node on that is settled so, with n choices to come after the first
  abbrev pub visits_from : ℕ → List ℕ → Settled V R → List (Visit V R)
  visits_from more path s =
      choosing path s (menu s.node) ∷ visits_of settled menu more path (menu s.node).choices

module _ {N V R : Type 0} (view : N → V) where
  -- the leaf is a node that is settled so; it isn't closed, and what was noted there isn't the
  -- first note any more
  pub record IsLeaf (first : Option (Note R)) (leaf : Leaf N) (s : Settled V R) : Type 0 where
    pub seen : view leaf.node ≡ s.node
    pub unclosed : s.closed ≡ false
    pub noted : IsAfterNote first (alone leaf.path s)

module _ {N V R : Type 0} (view : N → V) (settled : V → Settled V R) (menu : V → Menu V R) where
  -- a kept node represents visits in each round to come: for one, always the same, or for those
  -- from a leaf on
  abbrev pub StandsForVisits : Option (Note R) → Kept N → (ℕ → List (Visit V R)) → Type 0
  StandsForVisits first Expanded lists =
      (v : Visit V R) × (v.closed ≡ false) × IsAfterNote first v × ((n : ℕ) → lists n ≡ v ∷ [])
  StandsForVisits first (Frontier leaf) lists =
      (s : Settled V R) × IsLeaf view first leaf s ×
      ((n : ℕ) → lists n ≡ visits_from settled menu (n + leaf.below) leaf.path s)

  -- all that is kept represents them one after the other
  abbrev pub StandsForLists : Option (Note R) → List (Kept N) → (ℕ → List (Visit V R)) → Type 0
  StandsForLists first [] lists = (n : ℕ) → lists n ≡ []
  StandsForLists first (k ∷ ks) lists =
      (here : ℕ → List (Visit V R)) × (later : ℕ → List (Visit V R))
      × StandsForVisits first k here × StandsForLists first ks later ×
      ((n : ℕ) → lists n ≡ here n ++ later n)

  -- what is kept goes on by nodes that represent more visits, while visits go on
  abbrev pub Keeps : Progress N R → Progress N R → (ℕ → List (Visit V R)) → Type 0
  Keeps old new more =
      (lists : ℕ → List (Visit V R)) → (old.counter.ended ≡ Going →
      StandsForLists old.counter.note old.kept lists)
      → new.counter.ended ≡ Going → StandsForLists new.counter.note new.kept
      (λ n. lists n ++ more n)

  -- the first of the rounds is visited, and what is kept goes on by nodes that represent the others
  pub record IsVisited (old : Progress N R) (lists : ℕ → List (Visit V R)) (new : Progress N R) :
      Type 0 where
    pub counted : seen_counter view new.counter ≡ counted (seen_counter view old.counter) (lists 0)
    pub keeps : Keeps old new (λ n. lists (n + 1))

-- what holds of a leaf: its node, and that the nodes below it were visited with fewer choices
abbrev pub OfLeaf : {N : Type 0} → (N → Type 0) → ℕ → Kept N → Type 0
OfLeaf P most Expanded = Unit {0}
OfLeaf P most (Frontier leaf) = P leaf.node × (leaf.below < most)
