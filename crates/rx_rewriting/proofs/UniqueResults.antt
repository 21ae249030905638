-- Where the rules are single-valued and no step starts at a result, each term has at most one
-- result.
use Rattle.std.proofs.Common.{◌≡◌, ℕ, suc, ◌-◌, ◌≤◌, refl, subst, arith}
use Rattle.rx_rewriting.specs.Terms.{Ground, IsResult, Relation}
use Rattle.rx_rewriting.specs.Steps.{Step, Reaches, Stop, Go, ReachesIn, NoStep, OneMore, Convertible, Same, Forth, Back, IsSingleValued}
use Rattle.rx_rewriting.specs.Premises.{ResultsAreNormal}

-- a term that steps to s and reaches a result reaches it from s
result_after_step : (R : Relation) → IsSingleValued R → ResultsAreNormal R
    → (r s t : Ground) → IsResult t → Step R r s → Reaches R r t → Reaches R s t
result_after_step R single rest r s t result step Stop = absurd (rest r s result step)
result_after_step R single rest r s t result step (Go {t = u} other chain) =
    let P : Ground → Type 0 = λ v. Reaches R v t in subst P (single r u s other step) chain

-- a term that is convertible to a result reaches it
pub convertible_result_reached : (R : Relation) → IsSingleValued R → ResultsAreNormal R
    → (s t : Ground) → IsResult t → Convertible R s t → Reaches R s t
convertible_result_reached R single rest s t result Same = Stop
convertible_result_reached R single rest s t result (Forth {t = u} step chain) =
    Go step (convertible_result_reached R single rest u t result chain)
convertible_result_reached R single rest s t result (Back {t = u} step chain) =
    result_after_step R single rest u s t result step
    (convertible_result_reached R single rest u t result chain)

-- what a result reaches is that result
pub reached_from_result : (R : Relation) → ResultsAreNormal R → (s t : Ground) → IsResult s →
    Reaches R s t → s ≡ t
reached_from_result R rest s t result Stop = refl
reached_from_result R rest s t result (Go {t = u} step chain) = absurd (rest s u result step)

-- two convertible results are equal
pub convertible_results_equal : (R : Relation) → IsSingleValued R → ResultsAreNormal R
    → (s t : Ground) → IsResult s → IsResult t → Convertible R s t → s ≡ t
convertible_results_equal R single rest s t left right chain =
    reached_from_result R rest s t left (convertible_result_reached R single rest s t right chain)

-- what is reached in i steps from a term that reaches a result in m steps reaches it in the m - i
-- that are left
pub result_in_rest : (R : Relation) → IsSingleValued R → ResultsAreNormal R
    → (s t u : Ground) (m i : ℕ) → IsResult t → ReachesIn R m s t → ReachesIn R i s u
    → (i ≤ m) × ReachesIn R (m - i) u t
result_in_rest R single rest s t u m i result all NoStep =
    let P : ℕ → Type 0 = λ k. ReachesIn R k s t in
    let e : m ≡ m - 0 = omega arith in (omega arith, subst P e all)
result_in_rest R single rest s t u m i result NoStep (OneMore {t = b} step part) =
    absurd (rest s b result step)
result_in_rest R single rest s t u m i result (OneMore {m = n} {t = a} one all)
    (OneMore {m = j} {t = b} step part) =
    let P : Ground → Type 0 = λ v. ReachesIn R n v t in
    let (at_most, left) = result_in_rest R single rest b t u n j result
    (subst P (single s a b one step) all) part in
    let Q : ℕ → Type 0 = λ k. ReachesIn R k u t in
    let e : n - j ≡ suc n - suc j = omega arith in
    (omega (arith, at_most), subst Q e left)
