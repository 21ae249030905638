-- The one expression of a list of tokens.
use Rattle.std.proofs.Common.{◌≡◌, suc, ◌≤◌, ◌<◌, Some, None, List, length, arith}
use Rattle.c_lex.specs.declared.token.Token.{Token}
use Rattle.c_ast.specs.declared.expr.Expr.{Expr}
use Rattle.c_ast.specs.Height.{expr_height}
use Rattle.c_syntax.specs.declared.read.Read.{Read}
use Rattle.c_syntax.specs.Grammar.{levels, Expression}
use Rattle.c_parse.specs.Preconditions.{IsExpression, OneExpression}
use Rattle.c_syntax.specs.Readers.{Reads}
use Rattle.c_syntax.proofs.Lookahead.{over_stops}
use Rattle.c_syntax.proofs.Choices.{chosen_of}
use Rattle.c_syntax.proofs.UniqueExprs.{whole_unique}

module _ (ts : List Token) where
  -- nothing low enough was read
  pub no_expression : Reads (Expression ts) ts (suc levels) 0 200 None → (e : Expr) →
      IsExpression ts e → ⊥
  no_expression r e is = r.only (length ts) e is.0 (over_stops ts (suc levels)) is.1

  module _ (x : Read) (r : Reads (Expression ts) ts (suc levels) 0 200 (Some x)) where
    -- what was read ends before the list does
    pub no_whole : x.end < length ts → (e : Expr) → IsExpression ts e → ⊥
    no_whole before e is =
        let that : (x.end ≡ length ts) × (x.tree ≡ e) =
        r.only (length ts) e is.0 (over_stops ts (suc levels)) is.1 in
        let there : x.end ≡ length ts = that.0 in omega arith

    -- what was read is all that is spelled
    pub the_expression : length ts ≤ x.end → IsExpression ts x.tree
    the_expression past =
        let within : x.end ≤ length ts = r.found.within in
        let same : x.end ≡ length ts = omega arith in
        let spelled : Expression ts 0 (length ts) x.tree = rw same at r.found.spelled in
        let high : x.height ≡ expr_height x.tree = r.found.high in
        let fits : x.height ≤ 200 = r.found.fits in
        (spelled, omega arith)

-- a list of tokens spells at most one expression
pub expression_unique : OneExpression
expression_unique ts e f w v =
    (whole_unique ts 0 (length ts) (length ts) e f w (chosen_of ts 0 (length ts) f v)
    (over_stops ts (suc levels)) (over_stops ts (suc levels))).1
