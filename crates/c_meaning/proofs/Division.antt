-- `/` and `%` drop the fraction toward zero.
use Rattle.std.proofs.Common.{◌≡◌, ℕ, zero, suc, ◌<◌, ◌%◌, Bool, true, false, ℤ, pos, negsuc, neg_ℤ, refl, sym, subst, ◌∙◌, arith}
use Rattle.std.specs.Prelude.{◌≤ℤ◌, int_div, int_rem, unsigned_abs}
use Rattle.std.proofs.lemmas.Int.{quot-rem, rem_below, ints}
use Rattle.std.proofs.Math.Nat.{zero-mod}
use Rattle.std.specs.Bool.{Decides}
use Rattle.std.proofs.lemmas.Bool.Decides.{Decides-int_eq}
use Rattle.c_ast.specs.declared.expr.BinOp.TheVariants as Op
use Rattle.c_ast.specs.declared.expr.Expr.{Expr}
use Rattle.c_ast.specs.declared.expr.Expr.TheVariants.{Binary}
use Rattle.c_ast.specs.declared.integers.Integers.{Integers}
use Rattle.c_ast.specs.declared.integers.Integers.TheVariants.{Unbounded}
use Rattle.c_meaning.specs.Outcomes.{Outcome, Value, Error, Division, State}
use Rattle.c_meaning.specs.Expressions.{Calls, is_zero, quotient, remainder, expr}
use Rattle.c_meaning.specs.Laws.{Truncates}
use Rattle.c_meaning.proofs.Equations.{expr-Binary}

nonzero_abs : (y : ℤ) → ¬ (y ≡ pos 0) → 0 < unsigned_abs y
nonzero_abs (pos zero) nonzero = absurd (nonzero refl)
nonzero_abs (pos (suc n)) nonzero = omega arith
nonzero_abs (negsuc n) nonzero = omega arith

-- a test of a fact that does not hold is false
fails : {P : Type 0} (b : Bool) → Decides b P → ¬ P → b ≡ false
fails true decided no_fact = absurd (no_fact (decided.0 refl))
fails false decided no_fact = refl

not_zero : (y : ℤ) → ¬ (y ≡ pos 0) → is_zero y ≡ false
not_zero y = fails (is_zero y) (Decides-int_eq y (pos 0))

not_below : (x y : ℤ) → pos 0 ≤ℤ x → pos 0 ≤ℤ int_rem x y
not_below (pos a) y above = omega (arith, ints)
not_below (negsuc a) y above = absurd (omega (arith, ints))

at_most_zero : (n : ℕ) → neg_ℤ (pos n) ≤ℤ pos 0
at_most_zero zero = omega (arith, ints)
at_most_zero (suc n) = omega (arith, ints)

not_above : (x y : ℤ) → x ≤ℤ pos 0 → int_rem x y ≤ℤ pos 0
not_above (pos a) y below =
    let none : a ≡ 0 = omega (arith, ints) in
    rw (none, zero-mod (unsigned_abs y)) (omega (arith, ints))
not_above (negsuc a) y below = at_most_zero (suc a % unsigned_abs y)

truncated : (x y : ℤ) → ¬ (y ≡ pos 0) → Truncates x y (quotient Unbounded x y) (remainder x y)
truncated x y nonzero = record {
  q = int_div x y;
  r = int_rem x y;
  quotient_is = rw (not_zero y nonzero) refl;
  remainder_is = rw (not_zero y nonzero) refl;
  sum = quot-rem x y;
  nearer = rem_below x y (nonzero_abs y nonzero);
  not_below = not_below x y;
  not_above = not_above x y;
}

module _ (integers : Integers) (calls : Calls) (a b : Expr) (s : State) (x y : ℤ)
    (left : expr integers calls a s ≡ Value x) (right : expr integers calls b s ≡ Value y) where
  -- the two expressions divide the values of their operands
  quotient_outcome : expr integers calls (Binary Op.Div a b) s ≡ quotient integers x y
  quotient_outcome = expr-Binary integers calls Op.Div a b s ∙ rw (left, right) refl

  remainder_outcome : expr integers calls (Binary Op.Rem a b) s ≡ remainder x y
  remainder_outcome = expr-Binary integers calls Op.Rem a b s ∙ rw (left, right) refl

-- of mathematical integers with a divisor other than 0 they are quotient and remainder
pub truncates : (calls : Calls) (a b : Expr) (s : State) (x y : ℤ) →
    expr Unbounded calls a s ≡ Value x → expr Unbounded calls b s ≡ Value y → ¬ (y ≡ pos 0) →
    Truncates x y (expr Unbounded calls (Binary Op.Div a b) s)
    (expr Unbounded calls (Binary Op.Rem a b) s)
truncates calls a b s x y left right nonzero =
    let Q : Outcome ℤ → Type 0 =
    λ o. Truncates x y o (expr Unbounded calls (Binary Op.Rem a b) s) in
    let R : Outcome ℤ → Type 0 = λ o. Truncates x y (quotient Unbounded x y) o in
    subst Q (sym (quotient_outcome Unbounded calls a b s x y left right))
    (subst R (sym (remainder_outcome Unbounded calls a b s x y left right))
    (truncated x y nonzero))

-- by 0 both give the division error
pub by_zero : (integers : Integers) (calls : Calls) (a b : Expr) (s : State) (x : ℤ) →
    expr integers calls a s ≡ Value x → expr integers calls b s ≡ Value (pos 0)
    → (expr integers calls (Binary Op.Div a b) s ≡ Error Division) ×
    (expr integers calls (Binary Op.Rem a b) s ≡ Error Division)
by_zero integers calls a b s x left right = (
  quotient_outcome integers calls a b s x (pos 0) left right,
  remainder_outcome integers calls a b s x (pos 0) left right,
)
