-- Which combinations of polynomials have the value 0, by Gauss's elimination without fractions. A
-- combination is a polynomial, the relation, with the value that it has at a goal.
use Rattle.std.specs.Prelude.{ℕ, zero, suc, Bool, true, false, List, [], ◌∷◌, length, ℤ}
use Rattle.rx_plain.specs.Formed.{Formed, pure, kept, ◌>>=◌, ◌<$>◌, map_formed}
use Rattle.rx_poly.specs.Limits.{body_difference, is_within, scaled_by}
use Rattle.rx_poly.specs.Reading.{coefficient}
use Rattle.rx_poly.specs.Terms.{is_zero}
use Rattle.rx_poly.specs.declared.body.Body.{Body, out-Body}
use Rattle.rx_poly.specs.declared.body.Mono.{Mono}
use Rattle.rx_relations.specs.Content.{cofactor, primitive_parts}
use Rattle.rx_relations.specs.declared.combination.Combination.{Combination}

-- ---- one combination by another

-- k times the first minus l times the second
abbrev pub difference_formed : ℤ → Body → ℤ → Body → Formed Body
difference_formed k p l q = do
  first ← kept is_within (scaled_by k p)
  second ← kept is_within (scaled_by l q)
  kept is_within (body_difference first second)

-- the least multiples of both, so that coefficients a of the pivot and b of the other cancel; both
-- parts of their difference are divided by all that divides both
abbrev pub cancelled_by : ℤ → ℤ → Combination → Combination → Formed Combination
cancelled_by a b pivot c = do
  v ← difference_formed (cofactor a b) c.value (cofactor b a) pivot.value
  (λ r. primitive_parts (record { value = v; relation = r })) <$>
      difference_formed (cofactor a b) c.relation (cofactor b a) pivot.relation

-- where the other has not the monomial, it stays
abbrev pub cancelled_unless : Bool → ℤ → ℤ → Combination → Combination → Formed Combination
cancelled_unless true a b pivot c = pure c
cancelled_unless false a b pivot c = cancelled_by a b pivot c

-- the first of these terms, of the pivot's value, is cancelled in the other; the value 0 has none
abbrev pub cancelled_first : List (Mono × ℤ) → Combination → Combination → Formed Combination
cancelled_first [] pivot c = pure c
cancelled_first (t ∷ ts) pivot c =
    let b = coefficient t.0 (out-Body c.value).terms in
    cancelled_unless (is_zero b) t.1 b pivot c

-- the first monomial of the pivot's value is cancelled in the other
abbrev pub cancelled : Combination → Combination → Formed Combination
cancelled c pivot = cancelled_first (out-Body pivot.value).terms pivot c

-- ---- many combinations

-- of a combination whose value has these terms: where it has none, its relation is kept, and the
-- rest is gone on with; otherwise its first monomial is cancelled in each of the rest, and these
-- are gone on with
abbrev pub eliminate_by : List (Mono × ℤ) → Combination → (List Combination → Formed (List Body)) →
    List Combination → Formed (List Body)
eliminate_by [] c further cs = (λ rs. c.relation ∷ rs) <$> further cs
eliminate_by (t ∷ ts) c further cs = do
  next ← map_formed (λ d. cancelled d c) cs
  further next

-- so from the first of at most n combinations on
abbrev pub eliminate : ℕ → List Combination → Formed (List Body)
eliminate zero cs = pure []
eliminate (suc n) [] = pure []
eliminate (suc n) (c ∷ cs) = eliminate_by (out-Body c.value).terms c (eliminate n) cs

-- the relations of value 0 among the combinations of these
abbrev pub vanishing : List Combination → Formed (List Body)
vanishing cs = eliminate (length cs) cs
