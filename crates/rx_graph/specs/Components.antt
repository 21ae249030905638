-- Strongly connected components, each named by its least vertex.
use Rattle.std.specs.Prelude.{◌≡◌, ◌<◌, ◌≤◌, ℕ, true, List, map, slice_index, unwrap_or}
use Rattle.std.specs.List.{find, range_with_len}
use Rattle.rx_graph.specs.Graph.{below, together}

-- the number is the least vertex of the vertex's component
pub record IsLeastOf (n : ℕ) (edges : List (ℕ × ℕ)) (a label : ℕ) : Type 0 where
  pub inside : together edges (below n) a label ≡ true
  pub least : (b : ℕ) → b < n → together edges (below n) a b ≡ true → label ≤ b

-- each vertex has that label
abbrev pub AreComponents : ℕ → List (ℕ × ℕ) → List ℕ → Type 0
AreComponents n edges labels = (a : ℕ) → a < n → IsLeastOf n edges a (slice_index labels a)

-- the same, computed: the first vertex that is in one component with the vertex
abbrev pub component_of : ℕ → List (ℕ × ℕ) → ℕ → ℕ
component_of n edges a = unwrap_or (find (together edges (below n) a) (range_with_len 0 n)) a

abbrev pub components_of : ℕ → List (ℕ × ℕ) → List ℕ
components_of n edges = map (component_of n edges) (range_with_len 0 n)
