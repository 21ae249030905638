-- The words of the laws of the meaning by rounds.
use Rattle.std.specs.Prelude.{◌≡◌, ◌≤◌, ◌<◌, ℕ, Some, [], ◌∷◌, slice_get, ℤ, pos, ◌+ℤ◌, ◌*ℤ◌, ◌≤ℤ◌, unsigned_abs}
use Rattle.c_ast.specs.Straight.{straight_value}
use Rattle.c_ast.specs.declared.expr.Expr.{Expr}
use Rattle.c_ast.specs.declared.stmt.Stmt.TheVariants as Syntax
use Rattle.c_ast.specs.declared.program.Function.{Function}
use Rattle.c_ast.specs.declared.program.Resolved.{Resolved}
use Rattle.c_meaning.specs.Outcomes.{Outcome, Value, IsAnswer, State}

-- an outcome that depends on rounds and isn't 'more' stays the same with more rounds
abbrev pub Stays : {A : Type 0} → (ℕ → Outcome A) → Type 0
Stays outcome = (m n : ℕ) → m ≤ n → IsAnswer (outcome m) → outcome n ≡ outcome m

-- the body of the function at place `f` is one `return` of this expression
abbrev pub ReturnsExpression : Resolved → ℕ → Expr → Type 0
ReturnsExpression program f e =
    (function : Function) × (slice_get program.functions f ≡ Some function) ×
    (function.body ≡ Syntax.Return e ∷ [])

-- the expression has this straight value, of literals, variables, signs, `+`, `-` and `*`, where
-- the state gives the variables by their slots
abbrev pub HasStraightValue : State → Expr → ℤ → Type 0
HasStraightValue s e k = straight_value (slice_get s) e ≡ Some k

-- the outcomes of a quotient and of a remainder of x and y: q and r with q*y + r = x, where r is
-- nearer to 0 than y and never on the other side of 0 than x. So q is the algebraic quotient with
-- its fraction dropped (6.5.5p6)
pub record Truncates (x y : ℤ) (quotient remainder : Outcome ℤ) : Type 0 where
  pub q : ℤ
  pub r : ℤ
  pub quotient_is : quotient ≡ Value q
  pub remainder_is : remainder ≡ Value r
  pub sum : q *ℤ y +ℤ r ≡ x
  pub nearer : unsigned_abs r < unsigned_abs y
  pub not_below : pos 0 ≤ℤ x → pos 0 ≤ℤ r
  pub not_above : x ≤ℤ pos 0 → r ≤ℤ pos 0
