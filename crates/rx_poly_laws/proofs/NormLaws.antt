-- A term's value, by its parts.
use Rattle.std.proofs.Common.{◌≡◌, ◌∙◌, ap, refl, sym, ℕ, ℤ, negsuc, ◌+ℤ◌, ◌*ℤ◌, neg_ℤ, arith}
use Rattle.std.proofs.lemmas.Int.{ints}
use Rattle.rx_poly_laws.specs.Norm.{term_level, term_value}
use Rattle.rx_poly.specs.Value.{value, quotient, remainder}
use Rattle.rx_poly.specs.declared.body.Body.{Body}
use Rattle.rx_poly_laws.specs.declared.iterm.ITerm.{ITerm, fold_out-ITerm}
use Rattle.rx_poly_laws.specs.declared.iterm.ITerm.TheVariants.{Add, Mul, Neg, Div, Mod, outs-Add, outs-Mul, outs-Neg, outs-Div, outs-Mod}

pub term_value-Add : (a : ℕ → ℤ) (l r : ITerm) → term_value a (Add l r) ≡
    term_value a l +ℤ term_value a r
term_value-Add a l r = fold_out-ITerm ℤ (term_level a) (Add l r) ∙ rw (outs-Add l r) refl

pub term_value-Mul : (a : ℕ → ℤ) (l r : ITerm) → term_value a (Mul l r) ≡
    term_value a l *ℤ term_value a r
term_value-Mul a l r = fold_out-ITerm ℤ (term_level a) (Mul l r) ∙ rw (outs-Mul l r) refl

pub term_value-Neg : (a : ℕ → ℤ) (t : ITerm) → term_value a (Neg t) ≡ neg_ℤ (term_value a t)
term_value-Neg a t = fold_out-ITerm ℤ (term_level a) (Neg t) ∙ rw (outs-Neg t) refl

pub term_value-Div : (a : ℕ → ℤ) (l r : ITerm) → term_value a (Div l r) ≡
    quotient (term_value a l) (term_value a r)
term_value-Div a l r = fold_out-ITerm ℤ (term_level a) (Div l r) ∙ rw (outs-Div l r) refl

pub term_value-Mod : (a : ℕ → ℤ) (l r : ITerm) → term_value a (Mod l r) ≡
    remainder (term_value a l) (term_value a r)
term_value-Mod a l r = fold_out-ITerm ℤ (term_level a) (Mod l r) ∙ rw (outs-Mod l r) refl

-- what has -1 times the value of the part has the value of its negation
pub negated_value : {t : ITerm} (term : ITerm) {inner : ITerm} (p : Body) → inner ≡ t →
    ((a : ℕ → ℤ) → value a p ≡ term_value a inner) → term ≡ Neg t → (b : Body) →
    ((a : ℕ → ℤ) → value a b ≡ negsuc 0 *ℤ value a p) → (a : ℕ → ℤ) → value a b ≡ term_value a term
negated_value {t} term {inner} p is p_is e b h a =
    let minus : negsuc 0 *ℤ term_value a inner ≡ neg_ℤ (term_value a inner) = omega (arith, ints) in
    h a ∙ ap (λ n. negsuc 0 *ℤ n) (p_is a) ∙ minus ∙ ap (λ u. neg_ℤ (term_value a u)) is ∙
    sym (term_value-Neg a t) ∙ ap (term_value a) (sym e)

module _ (term l r : ITerm) where
  -- what has the sum of the values of both parts has the value of their sum
  pub sum_value : term ≡ Add l r → (b : Body) →
      ((a : ℕ → ℤ) → value a b ≡ term_value a l +ℤ term_value a r) → (a : ℕ → ℤ) → value a b ≡
      term_value a term
  sum_value is b e a = e a ∙ sym (term_value-Add a l r) ∙ ap (term_value a) (sym is)

  -- so of the product
  pub product_value : term ≡ Mul l r → (b : Body) →
      ((a : ℕ → ℤ) → value a b ≡ term_value a l *ℤ term_value a r) → (a : ℕ → ℤ) → value a b ≡
      term_value a term
  product_value is b e a = e a ∙ sym (term_value-Mul a l r) ∙ ap (term_value a) (sym is)

  -- of the quotient
  pub quotient_value : term ≡ Div l r → (b : Body) →
      ((a : ℕ → ℤ) → value a b ≡ quotient (term_value a l) (term_value a r)) → (a : ℕ → ℤ) →
      value a b ≡ term_value a term
  quotient_value is b e a = e a ∙ sym (term_value-Div a l r) ∙ ap (term_value a) (sym is)

  -- and of the remainder
  pub remainder_value : term ≡ Mod l r → (b : Body) →
      ((a : ℕ → ℤ) → value a b ≡ remainder (term_value a l) (term_value a r)) → (a : ℕ → ℤ) →
      value a b ≡ term_value a term
  remainder_value is b e a = e a ∙ sym (term_value-Mod a l r) ∙ ap (term_value a) (sym is)
