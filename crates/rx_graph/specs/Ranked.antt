-- Heights as they are raised: vertices in the order of how many they reach.
use Rattle.std.specs.Prelude.{◌≡◌, ◌↔◌, ◌⊎◌, ◌<◌, ◌≤◌, ℕ, suc, Bool, List, Contains, count_by, length, slice_index}
use Rattle.rx_graph.specs.Graph.{IsMarked, Path}
use Rattle.rx_graph.specs.Rows.{HasEdge}

-- n vertices are the vertex or have a path from it
pub record IsReachCount (n : ℕ) (edges : List (ℕ × ℕ)) (a count : ℕ) : Type 0 where
  pub marks : List Bool
  pub size : length marks ≡ n
  pub exact : (b : ℕ) → IsMarked marks b ↔ ((a ≡ b) ⊎ Path edges a b)
  pub is : count ≡ count_by (λ m. m) marks

-- there are counts that are equal under one label, and fall along each edge between labels
pub record AreRanks (rows : List (List ℕ)) (labels counts : List ℕ) : Type 0 where
  pub named : (a : ℕ) → a < length rows → slice_index labels a < length rows
  pub same : (a b : ℕ) → a < length rows → b < length rows → slice_index labels a ≡
      slice_index labels b → slice_index counts a ≡ slice_index counts b
  pub falls : (a b : ℕ) → HasEdge rows a b → (slice_index labels a ≡ slice_index labels b → ⊥) →
      slice_index counts b < slice_index counts a
  pub some : (a : ℕ) → a < length rows → 0 < slice_index counts a
  pub most : (a : ℕ) → a < length rows → slice_index counts a ≤ length rows

-- the label's height is above those of the targets with another label, by just 1 if it was raised,
-- and all else is as before
pub record Raised (targets labels : List ℕ) (own : ℕ) (heights after : List ℕ) : Type 0 where
  pub count : length after ≡ length heights
  pub others : (l : ℕ) → (l ≡ own → ⊥) → slice_index after l ≡ slice_index heights l
  pub up : slice_index heights own ≤ slice_index after own
  pub above : (t : ℕ) → Contains targets t → (slice_index labels t ≡ own → ⊥) →
      slice_index heights (slice_index labels t) < slice_index after own
  pub why : (slice_index after own ≡ slice_index heights own)
      ⊎ ((t : ℕ) × Contains targets t × (slice_index labels t ≡ own → ⊥) ×
      (slice_index after own ≡ suc (slice_index heights (slice_index labels t))))

-- a vertex of a lesser count, or of this count and before the other, is done
abbrev pub IsDone : List ℕ → ℕ → ℕ → ℕ → Type 0
IsDone counts count v a =
    (slice_index counts a < count) ⊎ ((slice_index counts a ≡ count) × (a < v))

-- an edge from the label's vertices to another label, whose height is that
pub record RaisedFrom (rows : List (List ℕ)) (labels counts : List ℕ) (count : ℕ) (heights : List ℕ)
    (a height : ℕ) : Type 0 where
  pub from : ℕ
  pub to : ℕ
  pub inside : slice_index labels from ≡ slice_index labels a
  pub edge : HasEdge rows from to
  pub outside : slice_index labels from ≡ slice_index labels to → ⊥
  pub upto : slice_index counts from ≤ count
  pub is : slice_index heights (slice_index labels to) ≡ height

-- the heights of labels, where those vertices are done
pub record HeightsTo (rows : List (List ℕ)) (labels counts : List ℕ) (count v : ℕ)
    (heights : List ℕ) : Type 0 where
  pub size : length heights ≡ length rows
  pub falls : (a b : ℕ) → HasEdge rows a b → (slice_index labels a ≡ slice_index labels b → ⊥) →
      IsDone counts count v a
      → slice_index heights (slice_index labels b) < slice_index heights (slice_index labels a)
  pub why : (a k : ℕ) → a < length rows → slice_index heights (slice_index labels a) ≡ suc k →
      RaisedFrom rows labels counts count heights a k
  pub low : (a : ℕ) → a < length rows → slice_index heights (slice_index labels a) <
      slice_index counts a
