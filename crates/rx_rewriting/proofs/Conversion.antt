-- Inside a set of terms, hypotheses convert no more than the rules: the principle of Koike and
-- Toyama.
use Rattle.std.proofs.Common.{◌⊎◌, inl, inr}
use Rattle.rx_rewriting.specs.Terms.{Ground, Relation, TermSet}
use Rattle.rx_rewriting.specs.Steps.{Step, Reaches, Stop, Go, Convertible, Same, Forth, Back, Joinable, Either}
use Rattle.rx_rewriting.specs.Ranks.{Weight, Smaller}
use Rattle.rx_rewriting.specs.Premises.{Lowers, ClosedUnder, Reducible, IsReplaceable, HaveConvertibleNormalForms}
use Rattle.rx_rewriting.proofs.Induction.{induction_on, ends_inside}
use Rattle.rx_rewriting.proofs.Chains.{Step-by_rule, Step-by_hypothesis, Step-either, Convertible-trans, Convertible-sym, Reaches-convertible, Reaches-step}

-- what the induction says of an inside term: it is convertible by the rules with whatever it
-- reaches
abbrev pub IsConvertedFrom : TermSet → Relation → Relation → Ground → Type 0
IsConvertedFrom inside R H s =
    inside s → (u : Ground) → Reaches (Either R H) s u → Convertible R s u

-- whatever is reached from an inside term by rules and hypotheses is convertible with it by the
-- rules
pub reached_convertible : (weight : Ground → Weight) (inside : TermSet) (R H : Relation)
    → Lowers weight inside (Either R H) → ClosedUnder inside (Either R H) → IsReplaceable inside R H
    → (s : Ground) → IsConvertedFrom inside R H s
reached_convertible weight inside R H lowers stays replaceable =
    induction_on weight (IsConvertedFrom inside R H)
    (λ s lesser in_s u chain. go s u lesser in_s chain)
  where
    -- after a first step all is smaller: the induction is used at what the step leads to
    after : (s t : Ground) → ((v : Ground) → Smaller (weight v) (weight s) →
        IsConvertedFrom inside R H v)
        → inside s → Step (Either R H) s t → (u : Ground) → Reaches (Either R H) t u →
        Convertible R t u
    after s t lesser in_s step = lesser t (lowers s t in_s step) (stays s t in_s step)

    split : (s t u : Ground) → ((v : Ground) → Smaller (weight v) (weight s) →
        IsConvertedFrom inside R H v)
        → inside s → Step R s t ⊎ Step H s t → Reaches (Either R H) t u → Convertible R s u
    split s t u lesser in_s (inl rule) rest =
        Forth rule (after s t lesser in_s (Step-by_rule R H rule) u rest)
    split s t u lesser in_s (inr hypothesis) rest =
        let (first, leads, joined) = replaceable s t in_s hypothesis in
        let (middle, left, right) = joined in
        let by_t = after s t lesser in_s (Step-by_hypothesis R H hypothesis) in
        Forth leads
        (Convertible-trans (after s first lesser in_s (Step-by_rule R H leads) middle left)
        (Convertible-trans (Convertible-sym (by_t middle right)) (by_t u rest)))

    go : (s u : Ground) → ((v : Ground) → Smaller (weight v) (weight s) →
        IsConvertedFrom inside R H v)
        → inside s → Reaches (Either R H) s u → Convertible R s u
    go s u lesser in_s Stop = Same
    go s u lesser in_s (Go {t = t} step rest) = split s t u lesser in_s (Step-either step) rest

-- two inside terms that join by rules and hypotheses are convertible by the rules
pub joined_convertible : (weight : Ground → Weight) (inside : TermSet) (R H : Relation)
    → Lowers weight inside (Either R H) → ClosedUnder inside (Either R H) → IsReplaceable inside R H
    → (s t : Ground) → inside s → inside t → Joinable (Either R H) s t → Convertible R s t
joined_convertible weight inside R H lowers stays replaceable s t in_s in_t (u, left, right) =
    let converted = reached_convertible weight inside R H lowers stays replaceable in
    Convertible-trans (converted s in_s u left) (Convertible-sym (converted t in_t u right))

-- and where what is inside and no result has a rule step, they reach results that are convertible
-- by the rules
pub joined_end_alike : (weight : Ground → Weight) (inside : TermSet) (R H : Relation)
    → Lowers weight inside (Either R H) → ClosedUnder inside (Either R H) →
    IsReplaceable inside R H →
    Reducible inside R
    → (s t : Ground) → inside s → inside t → Joinable (Either R H) s t →
    HaveConvertibleNormalForms inside R s t
joined_end_alike weight inside R H lowers stays replaceable moves s t in_s in_t joined =
    let ends = ends_inside weight inside R
    (λ a b in_a step. lowers a b in_a (Step-by_rule R H step))
    (λ a b in_a step. stays a b in_a (Step-by_rule R H step)) moves in
    let at_s = ends s in_s in
    let at_t = ends t in_t in
    record {
      left = at_s;
      right = at_t;
      convertible =
          Convertible-trans (Convertible-sym (Reaches-convertible at_s.reached))
          (Convertible-trans (joined_convertible weight inside R H lowers stays replaceable s t in_s
          in_t joined)
          (Reaches-convertible at_t.reached));
    }

-- where all terms are inside, conversion by rules and hypotheses is conversion by the rules
pub conversion : (weight : Ground → Weight) (inside : TermSet) (R H : Relation)
    → Lowers weight inside (Either R H) → ClosedUnder inside (Either R H) → IsReplaceable inside R H
    → ((u : Ground) → inside u)
    → (s t : Ground) → Convertible (Either R H) s t → Convertible R s t
conversion weight inside R H lowers stays replaceable all s t chain = go s t chain
  where
    one : (a b : Ground) → Step (Either R H) a b → Convertible R a b
    one a b step =
        reached_convertible weight inside R H lowers stays replaceable a (all a) b
        (Reaches-step step)

    go : (a b : Ground) → Convertible (Either R H) a b → Convertible R a b
    go a b Same = Same
    go a b (Forth {t = c} step rest) = Convertible-trans (one a c step) (go c b rest)
    go a b (Back {t = c} step rest) =
        Convertible-trans (Convertible-sym (one c a step)) (go c b rest)
