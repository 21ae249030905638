-- What the laws ask of a weight, of the rules and hypotheses, and of the set of terms inside which
-- they are to hold.
use Rattle.std.specs.Prelude.{ℕ, ◌⊎◌, List, ℤ}
use Rattle.rx_rewriting.specs.Terms.{Ground, Frame, IsResult, Relation, TermSet}
use Rattle.rx_rewriting.specs.Steps.{Step, Reaches, Convertible, Joinable, Either}
use Rattle.rx_rewriting.specs.Ranks.{Weight, Smaller}

-- the property holds of a weight whenever it holds of every smaller weight
abbrev pub IsInductive : (Weight → Type 0) → Type 0
IsInductive P = (w : Weight) → ((v : Weight) → Smaller v w → P v) → P w

-- each step from an inside term gives a smaller weight
abbrev pub Lowers : (Ground → Weight) → TermSet → Relation → Type 0
Lowers weight inside R = (s t : Ground) → inside s → Step R s t → Smaller (weight t) (weight s)

-- each step from an inside term stays inside
abbrev pub ClosedUnder : TermSet → Relation → Type 0
ClosedUnder inside R = (s t : Ground) → inside s → Step R s t → inside t

-- each inside term that is no result has a step
abbrev pub Reducible : TermSet → Relation → Type 0
Reducible inside R = (s : Ground) → inside s → IsResult s ⊎ ((t : Ground) × Step R s t)

-- where a hypothesis steps from an inside s to t, a rule steps from s to a term that joins with t
-- by both together
abbrev pub IsReplaceable : TermSet → Relation → Relation → Type 0
IsReplaceable inside R H =
    (s t : Ground) → inside s → Step H s t → (first : Ground) × Step R s first ×
    Joinable (Either R H) first t

-- no step starts at a result
abbrev pub ResultsAreNormal : Relation → Type 0
ResultsAreNormal R = (s t : Ground) → IsResult s → Step R s t → ⊥

-- the term reaches a result by the rules, and that result is inside
pub record EndsInside (inside : TermSet) (R : Relation) (s : Ground) : Type 0 where
  pub end : Ground
  pub reached : Reaches R s end
  pub is_result : IsResult end
  pub is_inside : inside end

-- the two terms reach inside results by the rules, and these results are convertible by the rules
pub record HaveConvertibleNormalForms (inside : TermSet) (R : Relation) (s t : Ground) : Type 0
  where
    pub left : EndsInside inside R s
    pub right : EndsInside inside R t
    pub convertible : Convertible R left.end right.end

-- the inner part of an inside term is inside
abbrev pub ClosedUnderSubterms : TermSet → Type 0
ClosedUnderSubterms inside = (f : ℕ) (xs : List ℤ) (s : Ground) → inside (Frame f xs s) → inside s

-- each step from an inside term with no frames over it gives a smaller weight
abbrev pub LowersHere : (Ground → Weight) → TermSet → Relation → Type 0
LowersHere weight inside R = (s t : Ground) → inside s → R s t → Smaller (weight t) (weight s)

-- the same of hypotheses with no frames over them
abbrev pub IsReplaceableHere : TermSet → Relation → Relation → Type 0
IsReplaceableHere inside R H =
    (s t : Ground) → inside s → H s t → (first : Ground) × Step R s first ×
    Joinable (Either R H) first t
