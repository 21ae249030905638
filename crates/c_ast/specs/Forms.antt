-- Straight functions: the body is one `return` of an expression made of literals, parameters,
-- signs, `+`, `-` and `*`.
use Rattle.std.specs.Prelude.{ℕ, Bool, true, false, ◌&&◌, nat_lt, if◌then◌else◌, Option, Some, None, List, [], ◌∷◌, length}
use Rattle.c_ast.specs.declared.expr.UnOp.{UnOp}
use Rattle.c_ast.specs.declared.expr.UnOp.TheVariants.{Plus, Minus, Not}
use Rattle.c_ast.specs.declared.expr.BinOp.{BinOp}
use Rattle.c_ast.specs.declared.expr.BinOp.TheVariants.{Add, Sub, Mul}
use Rattle.c_ast.specs.declared.expr.Expr.{Expr}
use Rattle.c_ast.specs.declared.expr.Expr.TheOpen.{Expr-F}
use Rattle.c_ast.specs.declared.expr.Expr.TheFolds.{fold-Expr}
use Rattle.c_ast.specs.declared.stmt.Stmt.{Stmt}
use Rattle.c_ast.specs.declared.stmt.Stmt.TheOpen.{Stmt-F}
use Rattle.c_ast.specs.declared.stmt.Stmt.TheViews.{out-Stmt}
use Rattle.c_ast.specs.declared.program.Function.{Function}

-- `+`, `-` and `*` between operands
abbrev pub is_sum_or_product : BinOp → Bool
is_sum_or_product Add = true
is_sum_or_product Sub = true
is_sum_or_product Mul = true
is_sum_or_product _ = false

-- `+` and `-` before an operand
abbrev pub is_sign : UnOp → Bool
is_sign Plus = true
is_sign Minus = true
is_sign Not = false

-- whether an expression is straight, from whether its parts are, where the parameters have the
-- slots below `count`
abbrev pub is_straight_level : ℕ → Expr-F Bool → Bool
is_straight_level count (Expr-F.Lit n) = true
is_straight_level count (Expr-F.Var slot) = nat_lt slot count
is_straight_level count (Expr-F.Unary op a) = is_sign op && a
is_straight_level count (Expr-F.Binary op a b) = is_sum_or_product op && (a && b)
is_straight_level count (Expr-F.Choose c a b) = false
is_straight_level count (Expr-F.Apply place arguments) = false

-- whether an expression is made of literals, parameters, signs, `+`, `-` and `*`
abbrev pub is_straight : ℕ → Expr → Bool
is_straight count = fold-Expr Bool (is_straight_level count)

-- the expression of a `return`; none for any other statement
abbrev pub returned_by : Stmt-F Stmt → Option Expr
returned_by (Stmt-F.Return e) = Some e
returned_by _ = None

-- the expression that a body returns, where it does nothing else
abbrev pub returned : List Stmt → Option Expr
returned (s ∷ []) = returned_by (out-Stmt s)
returned _ = None

-- an expression, where it is straight
abbrev pub only_straight : ℕ → Option Expr → Option Expr
only_straight count None = None
only_straight count (Some e) = if is_straight count e then Some e else None

-- the expression that a function of a resolved program returns, where the function is straight
abbrev pub straight_of : Function → Option Expr
straight_of f = only_straight (length f.params) (returned f.body)
