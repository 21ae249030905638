-- A rule's left side, where its variables have the values of the polynomials of a term of its
-- shape, means what the term does.
use Rattle.std.proofs.Common.{◌≡◌, ◌∙◌, ap, sym, refl, Bool, true, ℕ, zero, suc, ◌+◌, ◌≤◌, if◌then◌else◌, List, [], ◌∷◌, ◌++◌, length, ℤ, arith}
use Rattle.std.specs.List.{enumerate_from}
use Rattle.std.proofs.lemmas.Bool.{eq-eqb, ne_eqb}
use Rattle.std.proofs.lemmas.List.{append-nil}
use Rattle.rx_poly.specs.Constants.{variable}
use Rattle.rx_poly.specs.Substitution.{replaced, updated_assignment}
use Rattle.rx_poly.specs.Value.{value}
use Rattle.rx_poly.specs.declared.body.Body.{Body}
use Rattle.rx_poly.proofs.Constants.{value-variable}
use Rattle.rx_term.specs.Fitting.{term_fits}
use Rattle.rx_term.specs.Meaning.{values, ground_at, matched}
use Rattle.rx_term.specs.Shapes.{shape_of}
use Rattle.rx_term.specs.Variables.{arguments_of}
use Rattle.rx_term.specs.WellMade.{IsLeft, OfPoint, OverReturn, OverFail, variables_from, width}
use Rattle.rx_term.specs.declared.rule_set.RuleParts.{RuleParts}
use Rattle.rx_term.specs.declared.term.Term.{Term}
use Rattle.rx_term.specs.declared.term.Term.TheVariants.{Return, Fail}
use Rattle.rx_term.proofs.Equations.{arguments-Return, arguments-Fail, arguments-Call, arguments-Frame}
use Rattle.rx_term.proofs.ShapeLaws.{aligned, same_count, same_ground}
use Rattle.rx_term.proofs.VariableTests.{length-variables_from}

-- one variable more at the end
pub variables-last : (k n : ℕ) → variables_from k n ++ variable (k + n) ∷ [] ≡
    variables_from k (n + 1)
variables-last k zero = let q : k + 0 ≡ k = omega arith in ap (λ (m : ℕ). variable m ∷ []) q
variables-last k (suc n) =
    let q : k + suc n ≡ (k + 1) + n = omega arith in
    let r : suc (n + 1) ≡ suc n + 1 = omega arith in
    ap (λ (m : ℕ). variable k ∷ (variables_from (k + 1) n ++ variable m ∷ [])) q
    ∙ ap (λ qs. variable k ∷ qs) (variables-last (k + 1) n) ∙ ap (λ (m : ℕ). variables_from k m) r

-- the polynomials of a left side are the first variables
pub left_arguments : (t : Term) → IsLeft t → arguments_of t ≡ variables_from 0 (width t)
left_arguments _ (OfPoint f n) =
    let first = arguments-Call f (variables_from 0 n) in
    first ∙ ap (variables_from 0) (sym (ap length first ∙ length-variables_from 0 n))
left_arguments _ (OverReturn f n) =
    let q : 0 + n ≡ n = omega arith in
    let first = arguments-Frame f (variables_from 0 n) (Return (variable n)) ∙
    ap (λ qs. variables_from 0 n ++ qs) (arguments-Return (variable n))
    ∙ ap (λ (m : ℕ). variables_from 0 n ++ variable m ∷ []) (sym q) ∙ variables-last 0 n in
    first ∙ ap (variables_from 0) (sym (ap length first ∙ length-variables_from 0 (n + 1)))
left_arguments _ (OverFail f n c) =
    let first = arguments-Frame f (variables_from 0 n) (Fail c) ∙
    ap (λ qs. variables_from 0 n ++ qs) (arguments-Fail c) ∙ append-nil (variables_from 0 n) in
    first ∙ ap (variables_from 0) (sym (ap length first ∙ length-variables_from 0 n))

-- the variables from a number on have the values of the polynomials that are listed for them
pub listed_values : (a b : ℕ → ℤ) (k : ℕ) (ps : List Body) →
    ((v : ℕ) → k ≤ v → b v ≡ updated_assignment a (enumerate_from k ps) v) →
    values b (variables_from k (length ps)) ≡ values a ps
listed_values a b k [] is = refl
listed_values a b k (p ∷ ps) is =
    let here : value b (variable k) ≡ value a p =
    value-variable b k ∙ is k (omega arith) ∙
    ap (λ (t : Bool). value a (if t then p else replaced (enumerate_from (k + 1) ps) k))
    (eq-eqb k k refl) in
    let further : (v : ℕ) → k + 1 ≤ v → b v ≡ updated_assignment a (enumerate_from (k + 1) ps) v =
    λ v h. is v (omega arith) ∙ ap (λ (t : Bool).
    value a (if t then p else replaced (enumerate_from (k + 1) ps) v))
    (ne_eqb k v (λ e. omega (arith, e))) in
    let rest = listed_values a b (k + 1) ps further in
    (λ i. here i ∷ rest i)

-- a rule's left side of the shape of a term, both fitting, at the values of the term's polynomials
pub left_matches : (parts : RuleParts) (a : ℕ → ℤ) (left t : Term) → IsLeft left →
    term_fits parts left ≡ true → term_fits parts t ≡ true → shape_of left ≡ shape_of t →
    ground_at (updated_assignment a (matched t)) left ≡ ground_at a t
left_matches parts a left t form fits also shape =
    let same = aligned parts left t fits also shape in
    let b = updated_assignment a (matched t) in
    let count : width left ≡ length (arguments_of t) = same_count left t same in
    let first = ap (values b) (left_arguments left form ∙ ap (variables_from 0) count) in
    same_ground b a left t same (first ∙ listed_values a b 0 (arguments_of t) (λ v h. refl))
