-- The heights of vertices over the components: how many components the longest way out passes.
use Rattle.std.specs.Prelude.{◌≡◌, ◌<◌, ℕ, suc, true, false, List, slice_index}
use Rattle.rx_graph.specs.Graph.{below, leads, together}

-- some vertex of the component has an edge out of it, to a vertex of that height
pub record ReachesHeight (n : ℕ) (edges : List (ℕ × ℕ)) (heights : List ℕ) (a height : ℕ) : Type 0
  where
    pub from : ℕ
    pub to : ℕ
    pub inside : together edges (below n) a from ≡ true
    pub edge : leads edges from to ≡ true
    pub outside : together edges (below n) a to ≡ false
    pub is : slice_index heights to ≡ height

-- a component has height 0 where no edge leaves it, else 1 plus the greatest height that its edges
-- lead to
pub record AreHeights (n : ℕ) (edges : List (ℕ × ℕ)) (heights : List ℕ) : Type 0 where
  pub equal : (a b : ℕ) → a < n → b < n → together edges (below n) a b ≡ true →
      slice_index heights a ≡ slice_index heights b
  pub falls : (a b : ℕ) → leads edges a b ≡ true → together edges (below n) a b ≡ false →
      slice_index heights b < slice_index heights a
  pub reached : (a k : ℕ) → a < n → slice_index heights a ≡ suc k →
      ReachesHeight n edges heights a k
