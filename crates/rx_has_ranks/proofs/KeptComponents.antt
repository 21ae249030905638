-- What is kept of graphs of pairs stays right.
use Rattle.std.proofs.Common.{◌≡◌, ◌∙◌, ap, refl, ℕ, suc, ◌==◌, Bool, true, false, ◌&&◌, List, [], ◌∷◌, length}
use Rattle.std.proofs.lemmas.Bool.{and_parts, eqb-true}
use Rattle.rx_graph.specs.Components.{components_of}
use Rattle.rx_pairs.specs.Graph.{edges_of}
use Rattle.rx_pairs.specs.declared.pair.Pair.{Pair}
use Rattle.rx_rank.specs.Components.{representatives_of}
use Rattle.rx_has_ranks.specs.KnownComponents.{AreRepresentatives, same_edges}
use Rattle.rx_has_ranks.specs.declared.components_memo.KnownComponents.{KnownComponents}

-- lists of two lengths aren't the same
pub lengths_tell : (edges : List (ℕ × ℕ)) (pairs : List Pair) → (length edges ≡ length pairs → ⊥) →
    false ≡ same_edges edges pairs
lengths_tell [] [] apart = absurd (apart refl)
lengths_tell [] (pair ∷ pairs) apart = refl
lengths_tell (e ∷ es) [] apart = refl
lengths_tell (e ∷ es) (pair ∷ pairs) apart =
    by (e.0 == pair.left.0 && e.1 == pair.right.0)
    (lengths_tell es pairs (λ same. apart (ap suc same)))
  where
    by : (b : Bool) → false ≡ same_edges es pairs → false ≡ (b && same_edges es pairs)
    by true rest = rest
    by false rest = refl

-- the edges that are the same are those of the pairs
pub edges_tell : (edges : List (ℕ × ℕ)) (pairs : List Pair) → same_edges edges pairs ≡ true →
    edges ≡ edges_of pairs
edges_tell [] [] same = refl
edges_tell [] (pair ∷ pairs) same = cc
edges_tell (e ∷ es) [] same = cc
edges_tell (e ∷ es) (pair ∷ pairs) same =
    let both = and_parts (e.0 == pair.left.0 && e.1 == pair.right.0) (same_edges es pairs) same in
    let one = and_parts (e.0 == pair.left.0) (e.1 == pair.right.0) both.0 in
    λ i. (eqb-true e.0 pair.left.0 one.0 i, eqb-true e.1 pair.right.0 one.1 i) ∷
    edges_tell es pairs both.1 i

-- what is kept of the graph of the pairs is right
pub names_known : (known : KnownComponents) (pairs : List Pair) → AreRepresentatives known →
    same_edges known.edges.items pairs ≡ true → known.representatives.items ≡ representatives_of
    known.symbols pairs
names_known known pairs right same =
    right ∙ ap (components_of known.symbols)
    (edges_tell known.edges.items pairs same)
