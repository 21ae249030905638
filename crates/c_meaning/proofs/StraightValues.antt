-- The outcome of an expression with a straight value is this value.
use Rattle.std.proofs.Common.{◌≡◌, ℕ, suc, ℤ, pos, Option, Some, None, List, map, refl, sym, ap, subst, ◌∙◌}
use Rattle.std.specs.Prelude.{slice_get, unwrap_or}
use Rattle.c_ast.specs.Straight.{binary_value, unary_value, straight_level, straight_value}
use Rattle.c_ast.specs.declared.expr.UnOp.{UnOp}
use Rattle.c_ast.specs.declared.expr.UnOp.TheVariants as Sign
use Rattle.c_ast.specs.declared.expr.BinOp.{BinOp}
use Rattle.c_ast.specs.declared.expr.BinOp.TheVariants as Op
use Rattle.c_ast.specs.declared.expr.Expr.{Expr}
use Rattle.c_ast.specs.declared.expr.Expr.TheOpen.{Expr-F}
use Rattle.c_ast.specs.declared.expr.Expr.TheFolds.{map-Expr, fold-roll-Expr, ind-Expr}
use Rattle.c_ast.specs.declared.expr.Expr.TheViews.{roll-Expr}
use Rattle.c_ast.specs.declared.integers.Integers.TheVariants.{Unbounded}
use Rattle.c_ast.specs.declared.program.Resolved.{Resolved}
use Rattle.c_meaning.specs.Outcomes.{Outcome, Value, on_value, State}
use Rattle.c_meaning.specs.Expressions.{Calls, unary, binary, expr_level, expr}
use Rattle.c_meaning.specs.Statements.{calls_with, in_order, stmt}
use Rattle.c_meaning.specs.Programs.{returned, body_outcome, rounds, call_outcome}
use Rattle.c_meaning.specs.Laws.{ReturnsExpression, HasStraightValue}
use Rattle.c_meaning.proofs.Equations.{stmt-Return}

-- an option that has a value is not none
full : {A P : Type 0} {x : A} → None ≡ Some x → P
full e = absurd cc

-- the outcome is the value, where there is a value
abbrev Fits : Option ℤ → Outcome ℤ → Type 0
Fits value outcome = (k : ℤ) → value ≡ Some k → outcome ≡ Value k

-- a sign
signed : (op : UnOp) (u : Option ℤ) (x : Outcome ℤ) → Fits u x →
    Fits (unary_value op u) (on_value x (unary Unbounded op))
signed Sign.Plus None x fits k is = full is
signed Sign.Plus (Some a) x fits k is = rw (fits a refl) cc
signed Sign.Minus None x fits k is = full is
signed Sign.Minus (Some a) x fits k is = rw (fits a refl) cc
signed Sign.Not u x fits k is = full is

-- an operator between operands
joined : (op : BinOp) (u v : Option ℤ) (x y : Outcome ℤ) → Fits u x → Fits v y →
    Fits (binary_value op u v) (binary Unbounded op x y)
joined Op.Add None v x y left right k is = full is
joined Op.Add (Some a) None x y left right k is = full is
joined Op.Add (Some a) (Some b) x y left right k is = rw (left a refl, right b refl) cc
joined Op.Sub None v x y left right k is = full is
joined Op.Sub (Some a) None x y left right k is = full is
joined Op.Sub (Some a) (Some b) x y left right k is = rw (left a refl, right b refl) cc
joined Op.Mul None v x y left right k is = full is
joined Op.Mul (Some a) None x y left right k is = full is
joined Op.Mul (Some a) (Some b) x y left right k is = rw (left a refl, right b refl) cc
joined _ u v x y left right k is = full is

module _ (calls : Calls) (s : State) where
  abbrev Valued : Expr → Type 0
  Valued e = Fits (straight_value (slice_get s) e) (expr Unbounded calls e s)

  abbrev Part : Type 0
  Part = (e : Expr) × Valued e

  -- a variable
  placed : (o : Option ℤ) → Fits o (Value (unwrap_or o (pos 0)))
  placed None k is = full is
  placed (Some a) k is = cc

  level : (y : Expr-F Part) → Fits
      (straight_level (slice_get s) (map-Expr Expr (Option ℤ) (straight_value (slice_get s))
      (map-Expr Part Expr (λ p. p.0) y)))
      (expr_level Unbounded calls (map-Expr Expr (State → Outcome ℤ) (expr Unbounded calls)
      (map-Expr Part Expr (λ p. p.0) y)) s)
  level (Expr-F.Lit n) k is = cc
  level (Expr-F.Var v) k is = placed (slice_get s v) k is
  level (Expr-F.Unary op p) k is =
      signed op (straight_value (slice_get s) p.0) (expr Unbounded calls p.0 s) p.1 k is
  level (Expr-F.Binary op p q) k is =
      joined op (straight_value (slice_get s) p.0) (straight_value (slice_get s) q.0)
      (expr Unbounded calls p.0 s) (expr Unbounded calls q.0 s) p.1 q.1 k is
  level (Expr-F.Choose t p q) k is = full is
  level (Expr-F.Apply f ps) k is = full is

  step : (x : Expr-F Expr) (y : Expr-F Part) → map-Expr Part Expr (λ p. p.0) y ≡ x →
      Valued (roll-Expr x)
  step x y is =
      let P : Expr-F Expr → Type 0 = λ z. Fits
      (straight_level (slice_get s) (map-Expr Expr (Option ℤ) (straight_value (slice_get s)) z))
      (expr_level Unbounded calls (map-Expr Expr (State → Outcome ℤ) (expr Unbounded calls) z) s) in
      let opened : P x = subst P is (level y) in
      let V : Option ℤ → Type 0 = λ v. Fits v
      (expr_level Unbounded calls (map-Expr Expr (State → Outcome ℤ) (expr Unbounded calls) x) s) in
      let M : (State → Outcome ℤ) → Type 0 = λ m.
      Fits (straight_value (slice_get s) (roll-Expr x)) (m s) in
      subst M (sym (fold-roll-Expr (State → Outcome ℤ) (expr_level Unbounded calls) x))
      (subst V (sym (fold-roll-Expr (Option ℤ) (straight_level (slice_get s)) x)) opened)

  -- an expression's outcome is its straight value, where it has one
  pub expr_straight : (e : Expr) → Valued e
  expr_straight = ind-Expr Valued step

-- a function that returns an expression has this value as the outcome of its calls, from one round
-- on
pub body_straight : (program : Resolved) (f : ℕ) (e : Expr) (arguments : List ℤ) (k : ℤ) →
    ReturnsExpression program f e → HasStraightValue arguments e k
    → (n : ℕ) → call_outcome Unbounded program (suc n) f arguments ≡ Value k
body_straight program f e arguments k (function, there, body) value n =
    let calls = calls_with (rounds Unbounded program n) in
    let value_is : expr Unbounded calls e arguments ≡ Value k =
    expr_straight calls arguments e k value in
    ap (λ o. body_outcome Unbounded o (rounds Unbounded program n) arguments) there
    ∙ (ap (λ ts. on_value (in_order (map (stmt Unbounded) ts) (rounds Unbounded program n)
    arguments) returned) body
    ∙ rw (stmt-Return Unbounded e (rounds Unbounded program n) arguments, value_is) refl)
