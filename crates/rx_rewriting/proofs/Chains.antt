-- Chains of steps: joined, reversed, counted, and taken from one relation to a wider one.
use Rattle.std.proofs.Common.{◌≡◌, ℕ, zero, suc, ◌+◌, ◌⊎◌, inl, inr, arith, subst, List, ℤ}
use Rattle.rx_rewriting.specs.Terms.{Ground, Frame, Relation}
use Rattle.rx_rewriting.specs.Steps.{Step, Here, Under, Reaches, Stop, Go, ReachesIn, NoStep, OneMore, Convertible, Same, Forth, Back, Joinable, Either}

-- one chain after another
pub Reaches-trans : {R : Relation} {s t u : Ground} → Reaches R s t → Reaches R t u → Reaches R s u
Reaches-trans Stop later = later
Reaches-trans (Go step rest) later = Go step (Reaches-trans rest later)

-- one step is a chain
pub Reaches-step : {R : Relation} {s t : Ground} → Step R s t → Reaches R s t
Reaches-step step = Go step Stop

-- a chain has a number of steps
pub Reaches-counted : {R : Relation} {s t : Ground} → Reaches R s t → (m : ℕ) × ReachesIn R m s t
Reaches-counted Stop = (zero, NoStep)
Reaches-counted (Go step rest) =
    let counted = Reaches-counted rest in (suc counted.0, OneMore step counted.1)

-- a counted chain is a chain
pub ReachesIn-reaches : {R : Relation} {m : ℕ} {s t : Ground} → ReachesIn R m s t → Reaches R s t
ReachesIn-reaches NoStep = Stop
ReachesIn-reaches (OneMore step rest) = Go step (ReachesIn-reaches rest)

-- counts of chains add up
pub ReachesIn-trans : {R : Relation} {m n : ℕ} {s t u : Ground}
    → ReachesIn R m s t → ReachesIn R n t u → ReachesIn R (m + n) s u
ReachesIn-trans {R = R} {n = n} {s = s} {u = u} NoStep later =
    let P : ℕ → Type 0 = λ k. ReachesIn R k s u in
    let e : n ≡ 0 + n = omega arith in subst P e later
ReachesIn-trans {R = R} {n = n} {s = s} {u = u} (OneMore {m = m} step rest) later =
    let P : ℕ → Type 0 = λ k. ReachesIn R k s u in
    let e : suc (m + n) ≡ suc m + n = omega arith in
    subst P e (OneMore step (ReachesIn-trans rest later))

-- one conversion after another
pub Convertible-trans : {R : Relation} {s t u : Ground} → Convertible R s t → Convertible R t u →
    Convertible R s u
Convertible-trans Same later = later
Convertible-trans (Forth step rest) later = Forth step (Convertible-trans rest later)
Convertible-trans (Back step rest) later = Back step (Convertible-trans rest later)

-- a conversion reversed
pub Convertible-sym : {R : Relation} {s t : Ground} → Convertible R s t → Convertible R t s
Convertible-sym Same = Same
Convertible-sym (Forth step rest) = Convertible-trans (Convertible-sym rest) (Back step Same)
Convertible-sym (Back step rest) = Convertible-trans (Convertible-sym rest) (Forth step Same)

-- what is reached is convertible
pub Reaches-convertible : {R : Relation} {s t : Ground} → Reaches R s t → Convertible R s t
Reaches-convertible Stop = Same
Reaches-convertible (Go step rest) = Forth step (Reaches-convertible rest)

-- a term joins with itself
pub Joinable-same : (R : Relation) (s : Ground) → Joinable R s s
Joinable-same R s = (s, Stop, Stop)

-- joining does not see which of the two comes first
pub Joinable-sym : (R : Relation) (s t : Ground) → Joinable R s t → Joinable R t s
Joinable-sym R s t (u, left, right) = (u, right, left)

-- a chain added before the left side
pub Joinable-before_left : (R : Relation) (r s t : Ground) → Reaches R r s → Joinable R s t →
    Joinable R r t
Joinable-before_left R r s t chain (u, left, right) = (u, Reaches-trans chain left, right)

-- a chain added before the right side
pub Joinable-before_right : (R : Relation) (r s t : Ground) → Reaches R r t → Joinable R s t →
    Joinable R s r
Joinable-before_right R r s t chain (u, left, right) = (u, left, Reaches-trans chain right)

-- a step by a relation is one by any wider relation
pub Step-wider : {R Q : Relation} → ((s t : Ground) → R s t → Q s t) → {s t : Ground} → Step R s t →
    Step Q s t
Step-wider wider (Here {s = s} {t = t} one) = Here (wider s t one)
Step-wider wider (Under f xs step) = Under f xs (Step-wider wider step)

-- a rule step is a step by rules or hypotheses
pub Step-by_rule : (R H : Relation) {s t : Ground} → Step R s t → Step (Either R H) s t
Step-by_rule R H step = Step-wider (λ s t one. inl one) step

-- a hypothesis step is a step by rules or hypotheses
pub Step-by_hypothesis : (R H : Relation) {s t : Ground} → Step H s t → Step (Either R H) s t
Step-by_hypothesis R H step = Step-wider (λ s t one. inr one) step

-- a step by rules or hypotheses is the one or the other
pub Step-either : {R H : Relation} {s t : Ground} → Step (Either R H) s t → Step R s t ⊎ Step H s t
Step-either (Here (inl one)) = inl (Here one)
Step-either (Here (inr one)) = inr (Here one)
Step-either (Under f xs step) = go f xs (Step-either step)
  where
    go : {R H : Relation} {s t : Ground} (f : ℕ) (xs : List ℤ) → Step R s t ⊎ Step H s t
        → Step R (Frame f xs s) (Frame f xs t) ⊎ Step H (Frame f xs s) (Frame f xs t)
    go f xs (inl one) = inl (Under f xs one)
    go f xs (inr one) = inr (Under f xs one)

-- what is reached by a relation is reached by any wider one
pub Reaches-wider : {R Q : Relation} → ((s t : Ground) → R s t → Q s t) → {s t : Ground} →
    Reaches R s t → Reaches Q s t
Reaches-wider wider Stop = Stop
Reaches-wider wider (Go step rest) = Go (Step-wider wider step) (Reaches-wider wider rest)

-- what is reached by the rules is reached by rules and hypotheses
pub Reaches-by_rule : (R H : Relation) {s t : Ground} → Reaches R s t → Reaches (Either R H) s t
Reaches-by_rule R H chain = Reaches-wider (λ s t one. inl one) chain

-- terms that join by a relation join by any wider one
pub Joinable-wider : (R Q : Relation) → ((s t : Ground) → R s t → Q s t) → (s t : Ground) →
    Joinable R s t → Joinable Q s t
Joinable-wider R Q wider s t (u, left, right) =
    (u, Reaches-wider wider left, Reaches-wider wider right)
