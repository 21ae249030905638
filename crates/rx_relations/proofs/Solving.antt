-- The value that a polynomial says of a variable, where it is 0, is the variable's; and what has the
-- variable's own value in its place has its own value.
use Rattle.std.proofs.Common.{◌≡◌, ◌∙◌, ap, sym, cond, ℕ, ◌==◌, Bool, true, false, eqb-true, Some, None, [], ◌∷◌, ℤ, pos, negsuc, ◌+ℤ◌, ◌-ℤ◌, ◌*ℤ◌, refl, arith}
use Rattle.std.proofs.lemmas.Int.{ints}
use Rattle.std.specs.Ordering.{int_eq}
use Rattle.rx_poly.proofs.Constants.{value-variable}
use Rattle.rx_poly.proofs.PolyLaws.{value-body_difference, value-body_sum, value-scaled_by}
use Rattle.rx_poly.proofs.SubstitutedValue.{value-subst_body}
use Rattle.rx_poly.specs.Constants.{variable}
use Rattle.rx_poly.specs.Limits.{body_difference, body_sum, scaled_by}
use Rattle.rx_poly.specs.Substitution.{subst_body, updated_assignment}
use Rattle.rx_poly.specs.Value.{value}
use Rattle.rx_poly.specs.Variables.{uses}
use Rattle.rx_poly.specs.declared.body.Body.{Body}
use Rattle.rx_cert.specs.Elimination.{coefficient_of, solution, solution_minus, solution_plus}

module _ (a : ℕ → ℤ) (x : ℕ) where
  unless_used : (b : Bool) (q r : Body) → cond b None (Some q) ≡ Some r → q ≡ r
  unless_used true q r g = cc
  unless_used false q r g = cc

  minus_rest : (y p r : ℤ) → p ≡ pos 0 → r ≡ p -ℤ y → y ≡ negsuc 0 *ℤ r
  minus_rest y p r g h = omega (arith, ints)

  same_rest : (y p r : ℤ) → p ≡ pos 0 → r ≡ p +ℤ y → y ≡ r
  same_rest y p r g h = omega (arith, ints)

  -- p = x + rest, so x is -rest
  plus_value : (p e : Body) → value a p ≡ pos 0 →
      solution_plus x (body_difference p (variable x)) ≡ Some e → a x ≡ value a e
  plus_value p e zero f =
      let rest = body_difference p (variable x) in
      let left : value a rest ≡ value a p -ℤ a x = value-body_difference a p (variable x) ∙
      (λ i. value a p -ℤ value-variable a x i) in
      minus_rest (a x) (value a p) (value a rest) zero left
      ∙ sym (value-scaled_by a (negsuc 0) rest)
      ∙ ap (value a) (unless_used (uses x rest) (scaled_by (negsuc 0) rest) e f)

  -- p = -x + rest, so x is the rest
  minus_value : (p e : Body) → value a p ≡ pos 0 →
      solution_minus x (body_sum p (variable x)) ≡ Some e → a x ≡ value a e
  minus_value p e zero f =
      let rest = body_sum p (variable x) in
      let left : value a rest ≡ value a p +ℤ a x = value-body_sum a p (variable x) ∙
      (λ i. value a p +ℤ value-variable a x i) in
      same_rest (a x) (value a p) (value a rest) zero left ∙
      ap (value a) (unless_used (uses x rest) rest e f)

  by_signs : (p e : Body) → value a p ≡ pos 0 → (b c : Bool) →
      cond b (solution_plus x (body_difference p (variable x)))
      (cond c (solution_minus x (body_sum p (variable x))) None) ≡ Some e → a x ≡ value a e
  by_signs p e zero true c g = plus_value p e zero g
  by_signs p e zero false true g = minus_value p e zero g
  by_signs p e zero false false g = cc

  -- the variable has the value that is said of it
  pub value_of_solution : (p e : Body) → value a p ≡ pos 0 → solution x p ≡ Some e →
      a x ≡ value a e
  value_of_solution p e zero f =
      by_signs p e zero (int_eq (coefficient_of x p) (pos 1))
      (int_eq (coefficient_of x p) (negsuc 0)) f

  module _ (e : Body) (is : a x ≡ value a e) where
    by_number : (n : ℕ) (b : Bool) → (x == n) ≡ b → value a (cond b e (variable n)) ≡ a n
    by_number n true h = sym is ∙ ap a (eqb-true x n h)
    by_number n false h = value-variable a n

    unchanged : updated_assignment a ((x, e) ∷ []) ≡ a
    unchanged = λ i n. by_number n (x == n) refl i

    -- with its value in its place, a polynomial keeps its own
    pub value_replaced : (p : Body) → value a (subst_body ((x, e) ∷ []) p).form ≡ value a p
    value_replaced p =
        value-subst_body a ((x, e) ∷ []) p ∙ ap (λ (b : ℕ → ℤ). value b p) unchanged
