-- What each form of expression is to a precondition, one equation for each.
use Rattle.std.proofs.Common.{◌≡◌, ◌∙◌, refl, ℕ, ℤ}
use Rattle.rx_plain.specs.Formed.{pure}
use Rattle.rx_poly.specs.Constants.{number, variable}
use Rattle.c_ast.specs.declared.expr.UnOp.{UnOp}
use Rattle.c_ast.specs.declared.expr.BinOp.{BinOp}
use Rattle.c_ast.specs.declared.expr.Expr.{Expr}
use Rattle.c_ast.specs.declared.expr.Expr.TheVariants.{Lit, Var, Unary, Binary, outs-Lit, outs-Var, outs-Unary, outs-Binary}
use Rattle.c_ast.specs.declared.expr.Expr.TheFolds.{fold_out-Expr}
use Rattle.rx_code.specs.Expressions.{kind_of}
use Rattle.rx_code.specs.Preconditions.{Read, of_polynomial, unary_read, binary_read, read_level, read_expr}

pub read-Lit : (k : ℤ) → read_expr (Lit k) ≡ of_polynomial (pure (number k))
read-Lit k = fold_out-Expr Read read_level (Lit k) ∙ rw (outs-Lit k) refl

pub read-Var : (v : ℕ) → read_expr (Var v) ≡ of_polynomial (pure (variable v))
read-Var v = fold_out-Expr Read read_level (Var v) ∙ rw (outs-Var v) refl

pub read-Unary : (op : UnOp) (e : Expr) → read_expr (Unary op e) ≡ unary_read op (read_expr e)
read-Unary op e = fold_out-Expr Read read_level (Unary op e) ∙ rw (outs-Unary op e) refl

pub read-Binary : (op : BinOp) (l r : Expr) → read_expr (Binary op l r) ≡
    binary_read (kind_of op) op (read_expr l) (read_expr r)
read-Binary op l r = fold_out-Expr Read read_level (Binary op l r) ∙ rw (outs-Binary op l r) refl

-- what an operator's operands are
pub read_of : (op : BinOp) (l r : Expr) (x y : Read) → read_expr l ≡ x → read_expr r ≡ y →
    read_expr (Binary op l r) ≡ binary_read (kind_of op) op x y
read_of op l r x y p q = read-Binary op l r ∙ (λ i. binary_read (kind_of op) op (p i) (q i))
