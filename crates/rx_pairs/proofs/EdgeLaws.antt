-- The edges of pairs.
use Rattle.std.proofs.Common.{◌≡◌, ◌∙◌, ap, sym, subst, arith, ℕ, ◌+◌, ◌<◌, List, [], ◌∷◌, ◌++◌, get_or, length, take}
use Rattle.std.proofs.lemmas.List.{get_or-map, length-map, map-append, take_more}
use Rattle.rx_graph.specs.Graph.{IsOver}
use Rattle.rx_pairs.specs.Graph.{edges_of}
use Rattle.rx_pairs.specs.declared.pair.Pair.{Pair}

abbrev pub edge_of : Pair → ℕ × ℕ
edge_of p = (p.left.0, p.right.0)

-- the pairs are of numbers below the bound
pub pair_over : (n : ℕ) (pairs : List Pair) (i : ℕ) (pair : Pair) → i < length pairs → pair ≡
    get_or pairs i pair → IsOver n (edges_of pairs)
    → (pair.left.0 < n) × (pair.right.0 < n)
pair_over n pairs i pair there is over =
    let same : get_or (edges_of pairs) i (edge_of pair) ≡ edge_of pair =
    get_or-map edge_of pairs i pair (edge_of pair) there ∙ ap edge_of (sym is) in
    let count = length-map pairs edge_of in
    subst (λ (e : ℕ × ℕ). (e.0 < n) × (e.1 < n)) same
    (over i (edge_of pair) (omega (arith, there, count)))

-- the edge of one more pair
pub edge_more : (pairs : List Pair) (i : ℕ) (pair : Pair) → i < length pairs → pair ≡
    get_or pairs i pair
    → edges_of (take i pairs) ++ edge_of pair ∷ [] ≡ edges_of (take (i + 1) pairs)
edge_more pairs i pair there is =
    sym (ap edges_of (take_more pairs i pair there ∙ ap (λ p. take i pairs ++ p ∷ []) (sym is)) ∙
    map-append edge_of (take i pairs) (pair ∷ []))
