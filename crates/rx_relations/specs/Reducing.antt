-- The same elimination in another order: one combination after the other is reduced by the pivots
-- before it. The same polynomials are formed.
use Rattle.std.specs.Prelude.{List, [], ◌∷◌, ◌++◌, ℤ}
use Rattle.rx_plain.specs.Formed.{Formed, ◌<$>◌, fold_formed}
use Rattle.rx_poly.specs.declared.body.Body.{Body, out-Body}
use Rattle.rx_poly.specs.declared.body.Mono.{Mono}
use Rattle.rx_relations.specs.Cancelling.{cancelled}
use Rattle.rx_relations.specs.declared.combination.Combination.{Combination}
use Rattle.rx_relations.specs.declared.reduction.Reduction.{Reduction}

-- a combination in which the first monomial of each pivot's value is cancelled, in order
abbrev pub reduced : List Combination → Combination → Formed Combination
reduced pivots c = fold_formed cancelled c pivots

-- of a combination whose value has these terms the relation is kept, where it has none; otherwise
-- it is a pivot for those after it
abbrev pub placed : List (Mono × ℤ) → Reduction → Combination → Reduction
placed [] done c = record done { vanishing = done.vanishing ++ c.relation ∷ [] }
placed (t ∷ ts) done c = record done { pivots = done.pivots ++ c ∷ [] }

-- the next combination, reduced by the pivots so far
abbrev pub taken : Reduction → Combination → Formed Reduction
taken done c = (λ r. placed (out-Body r.value).terms done r) <$> reduced done.pivots c

-- nothing is taken yet
abbrev pub none_taken : Reduction
none_taken = record { pivots = []; vanishing = [] }

-- the relations of value 0 among the combinations of these
abbrev pub vanishing_in_order : List Combination → Formed (List Body)
vanishing_in_order cs = (λ (done : Reduction). done.vanishing) <$> fold_formed taken none_taken cs
