-- What each form of expression may be in a precondition, by its parts, one equation for each.
use Rattle.std.proofs.Common.{◌≡◌, ◌∙◌, refl, ℕ, ℤ, true, false, ◌&&◌, List}
use Rattle.c_ast.specs.Forms.{is_sign, is_sum_or_product}
use Rattle.c_ast.specs.RowForms.{Forms, row_of, forms_level, forms}
use Rattle.c_ast.specs.declared.expr.UnOp.{UnOp}
use Rattle.c_ast.specs.declared.expr.BinOp.{BinOp}
use Rattle.c_ast.specs.declared.expr.Expr.{Expr}
use Rattle.c_ast.specs.declared.expr.Expr.TheVariants.{Lit, Var, Unary, Binary, Choose, Apply, outs-Lit, outs-Var, outs-Unary, outs-Binary, outs-Choose, outs-Apply}
use Rattle.c_ast.specs.declared.expr.Expr.TheFolds.{fold_out-Expr}

-- a straight expression, and nothing else
abbrev straight_alone : Forms
straight_alone = record { straight = true; row = false }

-- neither
abbrev neither : Forms
neither = record { straight = false; row = false }

pub forms-Lit : (n : ℤ) → forms (Lit n) ≡ straight_alone
forms-Lit n = fold_out-Expr Forms forms_level (Lit n) ∙ rw (outs-Lit n) refl

pub forms-Var : (v : ℕ) → forms (Var v) ≡ straight_alone
forms-Var v = fold_out-Expr Forms forms_level (Var v) ∙ rw (outs-Var v) refl

pub forms-Unary : (op : UnOp) (a : Expr) → forms (Unary op a) ≡
    record { straight = is_sign op && (forms a).straight; row = false }
forms-Unary op a = fold_out-Expr Forms forms_level (Unary op a) ∙ rw (outs-Unary op a) refl

pub forms-Binary : (op : BinOp) (a b : Expr) → forms (Binary op a b)
    ≡ record {
      straight = is_sum_or_product op && ((forms a).straight && (forms b).straight);
      row =
          row_of op (forms a) (forms b);
    }
forms-Binary op a b = fold_out-Expr Forms forms_level (Binary op a b) ∙ rw (outs-Binary op a b) refl

pub forms-Choose : (c a b : Expr) → forms (Choose c a b) ≡ neither
forms-Choose c a b = fold_out-Expr Forms forms_level (Choose c a b) ∙ rw (outs-Choose c a b) refl

pub forms-Apply : (name : ℕ) (arguments : List Expr) → forms (Apply name arguments) ≡ neither
forms-Apply name arguments =
    fold_out-Expr Forms forms_level (Apply name arguments) ∙ rw (outs-Apply name arguments) refl
