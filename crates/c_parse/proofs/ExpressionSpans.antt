-- What the symbols of expressions that are no phrase of the grammar span.
use Rattle.std.proofs.Common.{◌≡◌, ℕ, ◌+◌, Some, List}
use Rattle.c_lex.specs.declared.token.Token.{Token}
use Rattle.c_lex.specs.declared.token.TokenKind.TheVariants.{Mark}
use Rattle.c_lex.specs.declared.token.Mark.TheVariants as mark
use Rattle.c_ast.specs.declared.expr.BinOp.{BinOp}
use Rattle.c_ast.specs.declared.expr.Expr.{Expr}
use Rattle.c_syntax.specs.Grammar.{kind_at, infixed, binary_of, Expression, Arguments}

-- what comes after an operand, up to the end of the expression
pub data AfterOperand : List Token → ℕ → ℕ → Type 0 where
  ended : (ts : List Token) → (i : ℕ) → AfterOperand ts i i
  operated : (ts : List Token) → (i j n : ℕ) → (op : BinOp) → (e : Expr)
      → binary_of (kind_at ts i) ≡ Some (infixed n op) → Expression ts (i + 1) j e →
      AfterOperand ts i j
  asked : (ts : List Token) → (i j k : ℕ) → (a b : Expr)
      → kind_at ts i ≡ Some (Mark mark.Question) → Expression ts (i + 1) j a → kind_at ts j ≡
      Some (Mark mark.Colon) → Expression ts (j + 1) k b → AfterOperand ts i k

-- what comes after a name in an expression
pub data AfterName : List Token → ℕ → ℕ → Type 0 where
  uncalled : (ts : List Token) → (i j : ℕ) → AfterOperand ts i j → AfterName ts i j
  called : (ts : List Token) → (i j k : ℕ) → (es : List Expr)
      → kind_at ts i ≡ Some (Mark mark.LeftParen) → Arguments ts (i + 1) j es →
      AfterOperand ts j k → AfterName ts i k
