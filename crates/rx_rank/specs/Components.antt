-- The components of a graph of pairs, each with its least symbol as representative.
use Rattle.std.specs.Prelude.{ℕ, Bool, false, List, slice_get}
use Rattle.std.specs.List.{filter}
use Rattle.std.specs.Option.{option_map_or}
use Rattle.rx_anchors.specs.Members.{is_member}
use Rattle.rx_graph.specs.Components.{components_of}
use Rattle.rx_pairs.specs.Graph.{edges_of}
use Rattle.rx_pairs.specs.declared.pair.Pair.{Pair}

-- by symbol the representative of its component: the least symbol of the component
abbrev pub representatives_of : ℕ → List Pair → List ℕ
representatives_of n pairs = components_of n (edges_of pairs)

-- both symbols of the pair are of one component
abbrev pub is_inside : List ℕ → Pair → Bool
is_inside names pair =
    option_map_or (λ name. is_member names name pair.right.0) (slice_get names pair.left.0) false

abbrev pub inside : ℕ → List Pair → List Pair
inside n pairs = filter (is_inside (representatives_of n pairs)) pairs

-- the pairs whose left symbols are of a component
abbrev pub pairs_in : List ℕ → ℕ → List Pair → List Pair
pairs_in names c pairs = filter (λ pair. is_member names c pair.left.0) pairs
