-- Which expressions may be preconditions: a comparison of two straight expressions, or several
-- joined by `&&`.
use Rattle.std.specs.Prelude.{Bool, true, false, ◌&&◌}
use Rattle.c_ast.specs.declared.expr.BinOp.{BinOp}
use Rattle.c_ast.specs.declared.expr.BinOp.TheVariants as binary
use Rattle.c_ast.specs.declared.expr.Expr.{Expr}
use Rattle.c_ast.specs.declared.expr.Expr.TheOpen.{Expr-F}
use Rattle.c_ast.specs.declared.expr.Expr.TheFolds.{fold-Expr}
use Rattle.c_ast.specs.Forms.{is_sign, is_sum_or_product}

-- `<`, `<=`, `>`, `>=`, `==` and `!=`
abbrev pub is_comparison : BinOp → Bool
is_comparison binary.Lt = true
is_comparison binary.Le = true
is_comparison binary.Gt = true
is_comparison binary.Ge = true
is_comparison binary.Eq = true
is_comparison binary.Ne = true
is_comparison _ = false

-- what an expression may be in a precondition
pub record Forms : Type 0 where
  pub straight : Bool
  pub row : Bool

-- whether an operator joins two operands to a row form: `&&` two row forms, a comparison two
-- straight expressions
abbrev pub row_of : BinOp → Forms → Forms → Bool
row_of binary.AndAlso a b = a.row && b.row
row_of op a b = is_comparison op && (a.straight && b.straight)

-- what an expression is, from what its parts are
abbrev pub forms_level : Expr-F Forms → Forms
forms_level (Expr-F.Lit n) = record { straight = true; row = false }
forms_level (Expr-F.Var v) = record { straight = true; row = false }
forms_level (Expr-F.Unary op a) = record { straight = is_sign op && a.straight; row = false }
forms_level (Expr-F.Binary op a b) = record {
  straight = is_sum_or_product op && (a.straight && b.straight);
  row = row_of op a b;
}
forms_level (Expr-F.Choose c a b) = record { straight = false; row = false }
forms_level (Expr-F.Apply name arguments) = record { straight = false; row = false }

abbrev pub forms : Expr → Forms
forms = fold-Expr Forms forms_level

-- an expression made of literals, names, signs, `+`, `-` and `*`
abbrev pub is_straight : Expr → Bool
is_straight e = (forms e).straight

-- a comparison of two straight expressions, or several joined by `&&`
abbrev pub is_row_form : Expr → Bool
is_row_form e = (forms e).row
