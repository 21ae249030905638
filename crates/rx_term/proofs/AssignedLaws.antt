-- Lists of integers as assignments, and arguments as such lists.
use Rattle.std.proofs.Common.{◌≡◌, ◌∙◌, ap, refl, Bool, ℕ, zero, suc, ◌+◌, ◌<◌, List, [], ◌∷◌, length, ℤ, arith, cond}
use Rattle.std.specs.List.{enumerate_from}
use Rattle.std.proofs.lemmas.Bool.{eq-eqb, ne_eqb}
use Rattle.rx_poly.specs.Constants.{variable}
use Rattle.rx_poly.specs.Substitution.{replaced, updated_assignment}
use Rattle.rx_poly.specs.Value.{value}
use Rattle.rx_poly.specs.declared.body.Body.{Body}
use Rattle.rx_poly.proofs.Constants.{value-variable}
use Rattle.rx_term.specs.Assigned.{assigned}
use Rattle.rx_term.specs.Meaning.{values}
use Rattle.rx_term.specs.WellMade.{variables_from}

-- the first variables have the integers of the list as their values
values_from : (a : ℕ → ℤ) (k : ℕ) (xs : List ℤ) → ((i : ℕ) → a (k + i) ≡ assigned xs i) →
    values a (variables_from k (length xs)) ≡ xs
values_from a k [] is = refl
values_from a k (x ∷ xs) is =
    let here : value a (variable k) ≡ x = value-variable a k ∙ ap a (omega arith) ∙ is 0 in
    let rest = values_from a (k + 1) xs (λ i. ap a (omega arith) ∙ is (suc i)) in
    (λ i. here i ∷ rest i)

pub values-assigned : (xs : List ℤ) → values (assigned xs) (variables_from 0 (length xs)) ≡ xs
values-assigned xs = values_from (assigned xs) 0 xs (λ i. ap (assigned xs) (omega arith))

-- a variable that is replaced by an argument has that argument's value
value_from : (a : ℕ → ℤ) (k : ℕ) (ps : List Body) (i : ℕ) → i < length ps →
    updated_assignment a (enumerate_from k ps) (k + i) ≡ assigned (values a ps) i
value_from a k [] i h = absurd (omega (arith, h))
value_from a k (p ∷ ps) zero h =
    let same : k ≡ k + 0 = omega arith in
    ap (λ (t : Bool). value a (cond t p (replaced (enumerate_from (k + 1) ps) (k + 0))))
    (eq-eqb k (k + 0) same)
value_from a k (p ∷ ps) (suc i) h =
    let other : (k ≡ k + suc i) → ⊥ = λ e. omega (arith, e) in
    ap (λ (t : Bool). value a (cond t p (replaced (enumerate_from (k + 1) ps) (k + suc i))))
    (ne_eqb k (k + suc i) other)
    ∙ ap (λ v. updated_assignment a (enumerate_from (k + 1) ps) v) (omega arith)
    ∙ value_from a (k + 1) ps i (omega (arith, h))

pub updated_assignment-arguments : (a : ℕ → ℤ) (ps : List Body) (v : ℕ) → v < length ps →
    updated_assignment a (enumerate_from 0 ps) v ≡ assigned (values a ps) v
updated_assignment-arguments a ps v h =
    ap (updated_assignment a (enumerate_from 0 ps)) (omega arith) ∙ value_from a 0 ps v h
