-- The rows of a precondition: a comparison of straight expressions is one row, and `&&` takes the
-- rows of its operands from left to right.
use Rattle.std.specs.Prelude.{List, [], ◌∷◌, ◌++◌, pos, negsuc}
use Rattle.rx_plain.specs.Formed.{Formed, pure, kept, ◌>>=◌, ◌<$>◌}
use Rattle.rx_poly.specs.Constants.{number, variable}
use Rattle.rx_poly.specs.Limits.{is_within, scaled_by}
use Rattle.rx_poly.specs.declared.body.Body.{Body}
use Rattle.rx_row.specs.declared.row.Row.{Row}
use Rattle.c_ast.specs.declared.expr.UnOp.{UnOp}
use Rattle.c_ast.specs.declared.expr.UnOp.TheVariants as unary
use Rattle.c_ast.specs.declared.expr.BinOp.{BinOp}
use Rattle.c_ast.specs.declared.expr.Expr.{Expr}
use Rattle.c_ast.specs.declared.expr.Expr.TheOpen.{Expr-F}
use Rattle.c_ast.specs.declared.expr.Expr.TheFolds.{fold-Expr}
use Rattle.rx_code.specs.Expressions.{arithmetic_of, test_of, kind_of}
use Rattle.rx_code.specs.declared.kind.OpKind.{OpKind}
use Rattle.rx_code.specs.declared.kind.OpKind.TheVariants.{Arithmetic, Dividing, Comparing, Conjunction, Disjunction}

-- an expression as a polynomial, where it is straight, and as rows, where it is a precondition
pub record Read : Type 0 where
  pub value : Formed Body
  pub rows : Formed (List Row)

abbrev pub of_polynomial : Formed Body → Read
of_polynomial p = record { value = p; rows = pure [] }

abbrev pub of_rows : Formed (List Row) → Read
of_rows rows = record { value = pure (number (pos 0)); rows = rows }

-- what an expression is that may not occur in a precondition
abbrev pub unread : Read
unread = record { value = pure (number (pos 0)); rows = pure [] }

abbrev pub unary_read : UnOp → Read → Read
unary_read unary.Plus e = of_polynomial e.value
unary_read unary.Minus e = of_polynomial (do
  p ← e.value
  kept is_within (scaled_by (negsuc 0) p))
unary_read unary.Not e = unread

abbrev pub binary_read : OpKind → BinOp → Read → Read → Read
binary_read Arithmetic op l r = of_polynomial (do
  p ← l.value
  q ← r.value
  arithmetic_of op p q)
binary_read Comparing op l r = of_rows (do
  p ← l.value
  q ← r.value
  (λ row. row ∷ []) <$> test_of op p q)
binary_read Conjunction op l r = of_rows (do
  rows ← l.rows
  (λ more. rows ++ more) <$> r.rows)
binary_read Dividing op l r = unread
binary_read Disjunction op l r = unread

-- an expression, from its parts
abbrev pub read_level : Expr-F Read → Read
read_level (Expr-F.Lit k) = of_polynomial (pure (number k))
read_level (Expr-F.Var v) = of_polynomial (pure (variable v))
read_level (Expr-F.Unary op e) = unary_read op e
read_level (Expr-F.Binary op l r) = binary_read (kind_of op) op l r
read_level (Expr-F.Choose c e f) = unread
read_level (Expr-F.Apply f es) = unread

abbrev pub read_expr : Expr → Read
read_expr = fold-Expr Read read_level

-- the rows of a precondition, equal ones kept, and whether all that is formed for them keeps the
-- limits
abbrev pub pre_rows : Expr → Formed (List Row)
pre_rows e = (read_expr e).rows
