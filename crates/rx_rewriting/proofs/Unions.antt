-- What holds of the steps of two relations holds of the steps of their union.
use Rattle.std.proofs.Common.{◌⊎◌, inl, inr}
use Rattle.rx_rewriting.specs.Terms.{Ground, Frame, Relation, TermSet}
use Rattle.rx_rewriting.specs.Steps.{Step, Here, Under, Either}
use Rattle.rx_rewriting.specs.Ranks.{Weight}
use Rattle.rx_rewriting.specs.Premises.{Lowers, ClosedUnder}

module _ (R H : Relation) where
  -- a step of the union is a step of the one or of the other
  pub Step-either : (s t : Ground) → Step (Either R H) s t → Step R s t ⊎ Step H s t
  Step-either s t (Here (inl rule)) = inl (Here rule)
  Step-either s t (Here (inr hypothesis)) = inr (Here hypothesis)
  Step-either _ _ (Under {s = s} {t = t} f xs step) = under_one (Step-either s t step)
    where
      under_one : Step R s t ⊎ Step H s t → Step R (Frame f xs s) (Frame f xs t) ⊎
          Step H (Frame f xs s) (Frame f xs t)
      under_one (inl rule) = inl (Under f xs rule)
      under_one (inr hypothesis) = inr (Under f xs hypothesis)

  pub lowers_either : (weight : Ground → Weight) (inside : TermSet) → Lowers weight inside R →
      Lowers weight inside H → Lowers weight inside (Either R H)
  lowers_either weight inside rules hypotheses s t in_s step = elim (Step-either s t step) [
    | inl rule ↦ rules s t in_s rule
    | inr hypothesis ↦ hypotheses s t in_s hypothesis
  ]

  pub stays_either : (inside : TermSet) → ClosedUnder inside R → ClosedUnder inside H →
      ClosedUnder inside (Either R H)
  stays_either inside rules hypotheses s t in_s step = elim (Step-either s t step) [
    | inl rule ↦ rules s t in_s rule
    | inr hypothesis ↦ hypotheses s t in_s hypothesis
  ]
