-- The code of each form of expression, by that of its parts, one equation for each.
use Rattle.std.proofs.Common.{◌≡◌, ◌∙◌, refl, ℕ, ℤ, true, List, map}
use Rattle.rx_poly.specs.Constants.{number, variable}
use Rattle.c_ast.specs.declared.integers.Integers.{Integers}
use Rattle.c_ast.specs.declared.expr.UnOp.{UnOp}
use Rattle.c_ast.specs.declared.expr.BinOp.{BinOp}
use Rattle.c_ast.specs.declared.expr.Expr.{Expr}
use Rattle.c_ast.specs.declared.expr.Expr.TheVariants.{Lit, Var, Unary, Binary, Choose, Apply, outs-Lit, outs-Var, outs-Unary, outs-Binary, outs-Choose, outs-Apply}
use Rattle.c_ast.specs.declared.expr.Expr.TheFolds.{fold_out-Expr}
use Rattle.rx_code.specs.Expressions.{Asked, of_value, unary_code, binary_code, kind_of, choice, call, expr_level, expr_code}
use Rattle.rx_code.specs.Pieces.{no_code}

module _ (integers : Integers) where
  pub code-Lit : (k : ℤ) → expr_code integers (Lit k) ≡ of_value
      (λ a next. record { code = no_code; at = a; value = number k; within = true })
  code-Lit k = fold_out-Expr Asked (expr_level integers) (Lit k) ∙ rw (outs-Lit k) refl

  pub code-Var : (v : ℕ) → expr_code integers (Var v) ≡ of_value
      (λ a next. record { code = no_code; at = a; value = variable v; within = true })
  code-Var v = fold_out-Expr Asked (expr_level integers) (Var v) ∙ rw (outs-Var v) refl

  pub code-Unary : (op : UnOp) (e : Expr) → expr_code integers (Unary op e) ≡
      unary_code integers op (expr_code integers e)
  code-Unary op e = fold_out-Expr Asked (expr_level integers) (Unary op e) ∙
      rw (outs-Unary op e) refl

  pub code-Binary : (op : BinOp) (l r : Expr) → expr_code integers (Binary op l r) ≡
      binary_code integers (kind_of op) op (expr_code integers l) (expr_code integers r)
  code-Binary op l r = fold_out-Expr Asked (expr_level integers) (Binary op l r) ∙
      rw (outs-Binary op l r) refl

  pub code-Choose : (c e f : Expr) → expr_code integers (Choose c e f) ≡
      choice (expr_code integers c) (expr_code integers e) (expr_code integers f)
  code-Choose c e f = fold_out-Expr Asked (expr_level integers) (Choose c e f) ∙
      rw (outs-Choose c e f) refl

  pub code-Apply : (f : ℕ) (es : List Expr) → expr_code integers (Apply f es) ≡
      call f (map (expr_code integers) es)
  code-Apply f es = fold_out-Expr Asked (expr_level integers) (Apply f es) ∙
      rw (outs-Apply f es) refl

-- all of these
pub ruleset expr_equations = (code-Lit, code-Var, code-Unary, code-Binary, code-Choose, code-Apply)
