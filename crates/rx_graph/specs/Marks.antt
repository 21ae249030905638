-- Marks on numbers, and the numbers that were marked in order.
use Rattle.std.specs.Prelude.{◌≡◌, ◌+◌, ◌⊎◌, ◌++◌, ℕ, Bool, true, false, List, Contains, length, slice_index}
use Rattle.std.specs.List.{sum_by}
use Rattle.rx_graph.specs.Graph.{IsMarked, Path}

-- how many are not marked
abbrev pub left_over : Bool → ℕ
left_over true = 0
left_over false = 1

abbrev pub unmarked : List Bool → ℕ
unmarked marks = sum_by left_over marks

-- the targets were marked, and those that weren't before come after the numbers that were marked
-- before
pub record Marked (marks : List Bool) (before : List ℕ) (targets : List ℕ) (after : List Bool)
    (reached : List ℕ) : Type 0 where
  pub count : length after ≡ length marks
  pub stay : (b : ℕ) → IsMarked marks b → IsMarked after b
  pub done : (b : ℕ) → Contains targets b → IsMarked after b
  pub more : List ℕ
  pub grown : reached ≡ before ++ more
  pub from : (b : ℕ) → Contains more b → Contains targets b
  pub new : (b : ℕ) → IsMarked after b → IsMarked marks b ⊎ Contains more b
  pub fresh : (b : ℕ) → Contains more b → IsMarked after b
  pub sum : unmarked after + length reached ≡ unmarked marks + length before

-- what has both marks is named by the label, and all else is as before
pub record Labelled (forwards backwards : List Bool) (label : ℕ) (labels after : List ℕ) : Type 0
  where
    pub count : length after ≡ length labels
    pub both : (b : ℕ) → IsMarked forwards b → IsMarked backwards b → slice_index after b ≡ label
    pub only : (b : ℕ) → (slice_index after b ≡ slice_index labels b) ⊎
        (IsMarked forwards b × IsMarked backwards b × (slice_index after b ≡ label))

-- where the vertex has its own name, it names all that it reaches and that reach it, and all else
-- is as before
pub record Named (edges : List (ℕ × ℕ)) (v : ℕ) (labels after : List ℕ) : Type 0 where
  pub count : length after ≡ length labels
  pub known : (slice_index labels v ≡ v → ⊥) → after ≡ labels
  pub both : slice_index labels v ≡ v → (b : ℕ) → Path edges v b → Path edges b v →
      slice_index after b ≡ v
  pub only : (b : ℕ) → (slice_index after b ≡ slice_index labels b) ⊎
      (Path edges v b × Path edges b v × (slice_index after b ≡ v))
