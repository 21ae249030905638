-- Induction over weights, for weights and for what has a weight.
use Rattle.std.proofs.Common.{◌≡◌, ◌⊎◌, inl, inr, refl}
use mathlib.Core.WellFounded.{Acc}
use Rattle.rx_rewriting.specs.Ranks.{Weight, Smaller}
use Rattle.rx_rewriting.specs.Terms.{Ground, IsResult, Relation, TermSet}
use Rattle.rx_rewriting.specs.Steps.{Step, Stop, Go}
use Rattle.rx_rewriting.specs.Premises.{IsInductive, Lowers, ClosedUnder, Reducible, EndsInside}
use Rattle.rx_rewriting.proofs.MultisetOrder.{weight_accessible}

-- an inductive property holds of what is accessible
from_accessible : (P : Weight → Type 0) → IsInductive P → (w : Weight) → Acc Smaller w → P w
from_accessible P step w (Acc.intro at lesser) =
    step at (λ v less. from_accessible P step v (lesser v less))

-- a property that holds of a weight whenever it holds of every smaller weight holds of every weight
pub induction : (P : Weight → Type 0) → IsInductive P → (w : Weight) → P w
induction P step w = from_accessible P step w (weight_accessible w)

-- the same for things that have a weight
pub induction_on : {A : Type 0} (weight : A → Weight) (Q : A → Type 0)
    → ((a : A) → ((b : A) → Smaller (weight b) (weight a) → Q b) → Q a) → (a : A) → Q a
induction_on {A = A} weight Q step a =
    induction (λ w. (b : A) → weight b ≡ w → Q b)
    (λ w lesser b at. step b (λ c less. lesser (weight c) (rw at at less) c refl))
    (weight a) a refl

-- where steps from inside lower the weight and stay inside, and each inside term that is no result
-- has one, every inside term reaches a result
pub ends_inside : (weight : Ground → Weight) (inside : TermSet) (R : Relation)
    → Lowers weight inside R → ClosedUnder inside R → Reducible inside R → (s : Ground) → inside s →
    EndsInside inside R s
ends_inside weight inside R lowers stays moves =
    induction_on weight (λ s. inside s → EndsInside inside R s)
    (λ s lesser in_s. go s lesser in_s (moves s in_s))
  where
    go : (s : Ground) → ((t : Ground) → Smaller (weight t) (weight s) → inside t →
        EndsInside inside R t)
        → inside s → IsResult s ⊎ ((t : Ground) × Step R s t) → EndsInside inside R s
    go s lesser in_s (inl result) =
        record { end = s; reached = Stop; is_result = result; is_inside = in_s }
    go s lesser in_s (inr (t, step)) =
        let later = lesser t (lowers s t in_s step) (stays s t in_s step) in
        record {
          end = later.end;
          reached = Go step later.reached;
          is_result = later.is_result;
          is_inside = later.is_inside;
        }
