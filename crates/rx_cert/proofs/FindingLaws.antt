-- What a finding of `true` says of the parts of an examination.
use Rattle.std.proofs.Common.{◌≡◌, ◌∙◌, ap, sym, ℕ, ℤ, Bool, true, false, ◌&&◌, Option, Some, None, refl, List, [], ◌∷◌, ◌++◌}
use Rattle.std.specs.Prelude.{if◌then◌else◌}
use Rattle.std.proofs.lemmas.Bool.{and_parts, and_from}
use Rattle.rx_poly.specs.Limits.{body_sum, is_within, body_difference}
use Rattle.rx_poly.specs.Terms.{is_zero}
use Rattle.rx_row.specs.Negation.{negation_within, opposite}
use Rattle.rx_row.specs.declared.row.Row.TheVariants.{Ge}
use Rattle.rx_cert.specs.Conditions.{is_shown}
use Rattle.rx_cert.specs.DivisionFacts.{at_least_zero_within, below_zero_within, division_formed, division_within, facts_at_least_zero, facts_below_zero, greatest_remainder, nothing_left, remainder_by, rows_at_least_zero, rows_below_zero}
use Rattle.rx_cert.specs.Examination.{level}
use Rattle.rx_cert.specs.declared.cert.Cert.TheOpen.{Cert-F}
use Rattle.rx_cert.specs.declared.conditions.ConditionsAnswer.{ConditionsAnswer}
use Rattle.rx_cert.specs.declared.conditions.ConditionsAnswer.TheVariants.{Shown, WrongCount, NotShown}
use Rattle.rx_poly.specs.declared.body.Body.{Body}
use Rattle.rx_row.specs.Substitution.{subst_rows, rows_within}
use Rattle.rx_row.specs.declared.row.Row.{Row}
use Rattle.rx_cert.specs.Elimination.{replaced_finding, solution, solution_within, solve_finding}
use Rattle.rx_cert.specs.Findings.{Said, Yes, No, Beyond, said, and_also, guard}

-- nothing more is asked
pub and_yes : (s : Said) → and_also s Yes ≡ s
and_yes Yes = refl
and_yes No = refl
and_yes Beyond = refl

-- a list of conditions that is found shown is
pub shown_list : (found : Option ConditionsAnswer) → is_shown found ≡ Yes → found ≡ Some Shown
shown_list None e = cc
shown_list (Some Shown) e = refl
shown_list (Some WrongCount) e = cc
shown_list (Some (NotShown i)) e = cc

-- what was formed keeps the limits, and what is after it refutes
pub within_parts : (b : Bool) (later : Said) → guard b later ≡ Yes → (b ≡ true) × (later ≡ Yes)
within_parts true later e = (refl, e)
within_parts false later e = cc

-- both parts refute
pub both_parts : (before later : Said) → and_also before later ≡ Yes → (before ≡ Yes) ×
    (later ≡ Yes)
both_parts Beyond later e = cc
both_parts Yes later e = (refl, e)
both_parts No later e = cc

-- a test of two answers that answers true has seen true
pub said_yes : (b : Bool) → said b ≡ Yes → b ≡ true
said_yes true e = refl
said_yes false e = cc

-- where a variable has a value, and all that is formed keeps the limits, what is found of the rows
-- with it is found
pub solve_found : (x : ℕ) (o : Option Body) (p e : Body) (ws : List (ℕ × Body))
    (rows changed : List Row) (rest : List Row → Said) →
    o ≡ Some p → solution x p ≡ Some e → solution_within x p ≡ true → ws ≡ (x, e) ∷ [] →
    rows_within ws rows ≡ true → changed ≡ subst_rows ws rows → solve_finding x o rows rest ≡
    rest changed
solve_found x o p e ws rows changed rest zero value first is second made =
    ap (λ z. solve_finding x z rows rest) zero
    ∙ (λ i. guard (first i) (replaced_finding x (value i) rows rest))
    ∙ ap (λ b. guard b (rest (subst_rows ((x, e) ∷ []) rows)))
    (ap (λ (vs : List (ℕ × Body)). rows_within vs rows) (sym is) ∙ second)
    ∙ ap rest (sym (made ∙ ap (λ (vs : List (ℕ × Body)). subst_rows vs rows) is))

-- where both parts of a division keep the limits and the first is refuted, the second decides
pub division_found : (num : Body) (d : ℤ) (above below : List Row → Said) (rows : List Row)
    {equation rest bound : Body} {more less again : List Row} (b : Bool) → is_zero d ≡ false →
    (equation, rest, bound) ≡ (division_formed num d).form → (division_formed num d).within ≡ true →
    more ≡ (facts_at_least_zero num equation rest bound).form →
    (facts_at_least_zero num equation rest bound).within ≡ true → b ≡ true →
    above (rows ++ more) ≡ said b → less ≡ (facts_below_zero num equation rest bound).form →
    (facts_below_zero num equation rest bound).within ≡ true → again ≡ rows →
    level (Cert-F.DivFacts num d above below) rows ≡ below (again ++ less)
division_found num d above below rows {equation} {rest} {bound} {more} {less} {again} b z t w m mw
    yes_b
    found l lw same =
    let first : more ≡ rows_at_least_zero num d =
    m ∙ ap (λ (p : Body × Body × Body). (facts_at_least_zero num p.0 p.1 p.2).form) t in
    let second : less ≡ rows_below_zero num d =
    l ∙ ap (λ (p : Body × Body × Body). (facts_below_zero num p.0 p.1 p.2).form) t in
    let room : (facts_at_least_zero num (nothing_left num d) (remainder_by num d)
    (greatest_remainder d)).within ≡ true =
    sym (ap (λ (p : Body × Body × Body). (facts_at_least_zero num p.0 p.1 p.2).within) t) ∙ mw in
    let space : (facts_below_zero num (nothing_left num d) (remainder_by num d)
    (greatest_remainder d)).within ≡ true =
    sym (ap (λ (p : Body × Body × Body). (facts_below_zero num p.0 p.1 p.2).within) t) ∙ lw in
    let parts = and_parts (negation_within (Ge num)) (is_within (opposite (remainder_by num d)) &&
    is_within (body_sum (greatest_remainder d) (remainder_by num d))) space in
    let upper : at_least_zero_within num d ≡ true =
    and_from (division_within num d)
    (is_within (body_difference (greatest_remainder d) (remainder_by num d))) w room in
    let lower : below_zero_within num d ≡ true =
    and_from (negation_within (Ge num)) (division_within num d &&
    (is_within (opposite (remainder_by num d)) &&
    is_within (body_sum (greatest_remainder d) (remainder_by num d)))) parts.0
    (and_from (division_within num d) (is_within (opposite (remainder_by num d)) &&
    is_within (body_sum (greatest_remainder d) (remainder_by num d))) w parts.1) in
    let yes : above (rows ++ more) ≡ Yes = found ∙ ap said yes_b in
    (λ i. if z i then No else and_also (guard (upper i) (above (rows ++ sym first i)))
    (guard (lower i) (below (rows ++ sym second i))))
    ∙ (λ i. and_also (yes i) (below (sym same i ++ less)))
