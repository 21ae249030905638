-- The graph of pairs: an edge goes from the left symbol of a pair to its right one.
use Rattle.std.specs.Prelude.{◌≡◌, ◌&&◌, ◌||◌, ℕ, Bool, true, not, Some, List, map, slice_get}
use Rattle.rx_graph.specs.Graph.{Path}
use Rattle.rx_term.specs.declared.rule_set.SymInfo.{SymInfo}
use Rattle.rx_pairs.specs.declared.pair.Pair.{Pair}

-- the edges of pairs
abbrev pub edges_of : List Pair → List (ℕ × ℕ)
edges_of pairs = map (λ p. (p.left.0, p.right.0)) pairs

-- a symbol at which unfolding may go on for ever: the entry of a function or the head of a loop, no
-- frame, that reaches itself
abbrev pub may_loop : SymInfo → Bool
may_loop info = (info.entry || info.head) && not info.frame

abbrev pub IsLoopPoint : List SymInfo → List (ℕ × ℕ) → ℕ → Type 0
IsLoopPoint infos edges f =
    (info : SymInfo) × (slice_get infos f ≡ Some info) × (may_loop info ≡ true) × Path edges f f
