-- What is kept of graphs of pairs: the representatives of their components, which are right.
use Rattle.std.specs.Prelude.{◌≡◌, ◌==◌, ◌&&◌, ℕ, Bool, true, false, List, [], ◌∷◌}
use Rattle.rx_graph.specs.Components.{components_of}
use Rattle.rx_pairs.specs.declared.pair.Pair.{Pair}
use Rattle.rx_has_ranks.specs.declared.components_memo.KnownComponents.{KnownComponents}

-- the representatives that are kept are those of the components
abbrev pub AreRepresentatives : KnownComponents → Type 0
AreRepresentatives known =
    known.representatives.items ≡ components_of known.symbols known.edges.items

-- the edges are those of the pairs, in order
abbrev pub same_edges : List (ℕ × ℕ) → List Pair → Bool
same_edges [] [] = true
same_edges [] (pair ∷ pairs) = false
same_edges (e ∷ es) [] = false
same_edges (e ∷ es) (pair ∷ pairs) =
    (e.0 == pair.left.0 && e.1 == pair.right.0) && same_edges es pairs
