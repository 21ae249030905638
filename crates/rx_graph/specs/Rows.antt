-- Edges by rows: for each vertex the vertices that its edges lead to.
use Rattle.std.specs.Prelude.{◌≡◌, ◌⊎◌, ℕ, List, [], Contains, length, slice_index_or}

-- there is an edge from the one to the other
abbrev pub HasEdge : List (List ℕ) → ℕ → ℕ → Type 0
HasEdge rows a b = Contains (slice_index_or rows a []) b

-- one edge more, and nothing else
pub record HasOneMore (rows : List (List ℕ)) (from to : ℕ) (after : List (List ℕ)) : Type 0 where
  pub count : length after ≡ length rows
  pub stay : (a b : ℕ) → HasEdge rows a b → HasEdge after a b
  pub there : HasEdge after from to
  pub only : (a b : ℕ) → HasEdge after a b → HasEdge rows a b ⊎ ((a ≡ from) × (b ≡ to))

-- an edge more from each source, and nothing else
pub record HasAllFrom (rows : List (List ℕ)) (sources : List ℕ) (to : ℕ) (after : List (List ℕ)) :
    Type 0 where
  pub count : length after ≡ length rows
  pub stay : (a b : ℕ) → HasEdge rows a b → HasEdge after a b
  pub there : (a : ℕ) → Contains sources a → HasEdge after a to
  pub only : (a b : ℕ) → HasEdge after a b → HasEdge rows a b ⊎ (Contains sources a × (b ≡ to))
