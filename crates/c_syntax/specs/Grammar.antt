-- The grammar of expressions: which tree the tokens from one place up to another spell.
--
--     expr    = or [ "?" expr ":" expr ]
--     or      = and { "||" and }                  and   = equal { "&&" equal }
--     equal   = rel { ("=="|"!=") rel }           rel   = sum { ("<"|"<="|">"|">=") sum }
--     sum     = product { ("+"|"-") product }     product = unary { ("*"|"/"|"%") unary }
--     unary   = ("+"|"-"|"!") unary | primary
--     primary = NUMBER | NAME | NAME "(" [ expr { "," expr } ] ")" | "(" expr ")"
--
-- A repeated operator associates to the left, parentheses leave no trace, and a name is the number
-- of its token.
use Rattle.std.specs.Prelude.{◌≡◌, ℕ, zero, suc, ◌+◌, ℤ, Option, Some, None, List, [], ◌∷◌}
use Rattle.std.specs.List.{slice_get}
use Rattle.std.specs.Option.{option_map}
use Rattle.c_lex.specs.declared.token.Token.{Token}
use Rattle.c_lex.specs.declared.token.TokenKind.{TokenKind}
use Rattle.c_lex.specs.declared.token.TokenKind.TheVariants.{Name, Number, Mark}
use Rattle.c_lex.specs.declared.token.Mark.{Mark as TheMark}
use Rattle.c_lex.specs.declared.token.Mark.TheVariants as mark
use Rattle.c_ast.specs.declared.expr.UnOp.{UnOp}
use Rattle.c_ast.specs.declared.expr.UnOp.TheVariants as sign
use Rattle.c_ast.specs.declared.expr.BinOp.{BinOp}
use Rattle.c_ast.specs.declared.expr.BinOp.TheVariants as binary
use Rattle.c_ast.specs.declared.expr.Expr.{Expr}
use Rattle.c_ast.specs.declared.expr.Expr.TheVariants.{Lit, Var, Unary, Binary, Choose, Apply}

-- the kind of the token at a place of the list, if there is one
unfoldable pub kind_at : List Token → ℕ → Option TokenKind
kind_at ts i = option_map (λ (t : Token). t.kind) (slice_get ts i)

-- an operator between two operands, with its level: an operator of a lower level binds tighter
pub data Operator : Type 0 where
  infixed : (level : ℕ) → (op : BinOp) → Operator

-- the table of operators between two operands
abbrev pub binary_of : Option TokenKind → Option Operator
binary_of (Some (Mark mark.Star)) = Some (infixed 0 binary.Mul)
binary_of (Some (Mark mark.Slash)) = Some (infixed 0 binary.Div)
binary_of (Some (Mark mark.Percent)) = Some (infixed 0 binary.Rem)
binary_of (Some (Mark mark.Plus)) = Some (infixed 1 binary.Add)
binary_of (Some (Mark mark.Minus)) = Some (infixed 1 binary.Sub)
binary_of (Some (Mark mark.Less)) = Some (infixed 2 binary.Lt)
binary_of (Some (Mark mark.LessEqual)) = Some (infixed 2 binary.Le)
binary_of (Some (Mark mark.Greater)) = Some (infixed 2 binary.Gt)
binary_of (Some (Mark mark.GreaterEqual)) = Some (infixed 2 binary.Ge)
binary_of (Some (Mark mark.EqualEqual)) = Some (infixed 3 binary.Eq)
binary_of (Some (Mark mark.NotEqual)) = Some (infixed 3 binary.Ne)
binary_of (Some (Mark mark.AndAnd)) = Some (infixed 4 binary.AndAlso)
binary_of (Some (Mark mark.OrOr)) = Some (infixed 5 binary.OrElse)
binary_of _ = None

-- how many levels of operators there are
abbrev pub levels : ℕ
levels = 6

-- the table of operators before an operand
abbrev pub unary_of : Option TokenKind → Option UnOp
unary_of (Some (Mark mark.Plus)) = Some sign.Plus
unary_of (Some (Mark mark.Minus)) = Some sign.Minus
unary_of (Some (Mark mark.Not)) = Some sign.Not
unary_of _ = None

mutual
  -- an expression
  pub data Expression : List Token → ℕ → ℕ → Expr → Type 0 where
    plain : (ts : List Token) → (i j : ℕ) → (e : Expr) → BinaryAt ts levels i j e →
        Expression ts i j e
    choice : (ts : List Token) → (i j k l : ℕ) → (c a b : Expr)
        → BinaryAt ts levels i j c → kind_at ts j ≡ Some (Mark mark.Question) →
        Expression ts (j + 1) k a → kind_at ts k ≡ Some (Mark mark.Colon) →
        Expression ts (k + 1) l b
        → Expression ts i l (Choose c a b)

  -- an expression by the operators of the lowest levels alone, as many as the number says
  pub data BinaryAt : List Token → ℕ → ℕ → ℕ → Expr → Type 0 where
    signed : (ts : List Token) → (i j : ℕ) → (e : Expr) → UnaryExpression ts i j e →
        BinaryAt ts zero i j e
    chain : (ts : List Token) → (n i j k : ℕ) → (a e : Expr) → BinaryAt ts n i j a →
        Operands ts n a j k e → BinaryAt ts (suc n) i k e

  -- the operators of one level and their right operands, after an operand that has been spelled
  pub data Operands : List Token → ℕ → Expr → ℕ → ℕ → Expr → Type 0 where
    done : (ts : List Token) → (n : ℕ) → (a : Expr) → (i : ℕ) → Operands ts n a i i a
    more : (ts : List Token) → (n : ℕ) → (a : Expr) → (i j k : ℕ) → (op : BinOp) → (b e : Expr)
        → binary_of (kind_at ts i) ≡ Some (infixed n op) → BinaryAt ts n (i + 1) j b →
        Operands ts n (Binary op a b) j k e → Operands ts n a i k e

  -- an operand, with the operators before it
  pub data UnaryExpression : List Token → ℕ → ℕ → Expr → Type 0 where
    unsigned : (ts : List Token) → (i j : ℕ) → (e : Expr) → PrimaryExpression ts i j e →
        UnaryExpression ts i j e
    prefixed : (ts : List Token) → (i j : ℕ) → (op : UnOp) → (e : Expr) → unary_of (kind_at ts i) ≡
        Some op → UnaryExpression ts (i + 1) j e → UnaryExpression ts i j (Unary op e)

  -- an operand without operators before it
  pub data PrimaryExpression : List Token → ℕ → ℕ → Expr → Type 0 where
    number : (ts : List Token) → (i : ℕ) → (value : ℤ) → kind_at ts i ≡ Some (Number value) →
        PrimaryExpression ts i (i + 1) (Lit value)
    name : (ts : List Token) → (i : ℕ) → kind_at ts i ≡ Some Name →
        PrimaryExpression ts i (i + 1) (Var i)
    call : (ts : List Token) → (i j : ℕ) → (arguments : List Expr)
        → kind_at ts i ≡ Some Name → kind_at ts (i + 1) ≡ Some (Mark mark.LeftParen) →
        Arguments ts (i + 2) j arguments → PrimaryExpression ts i j (Apply i arguments)
    parens : (ts : List Token) → (i j : ℕ) → (e : Expr)
        → kind_at ts i ≡ Some (Mark mark.LeftParen) → Expression ts (i + 1) j e → kind_at ts j ≡
        Some (Mark mark.RightParen) → PrimaryExpression ts i (j + 1) e

  -- the arguments of a call, from after its opening parenthesis up to and with the closing one
  pub data Arguments : List Token → ℕ → ℕ → List Expr → Type 0 where
    no_arguments : (ts : List Token) → (i : ℕ) → kind_at ts i ≡ Some (Mark mark.RightParen) →
        Arguments ts i (i + 1) []
    arguments : (ts : List Token) → (i j k : ℕ) → (e : Expr) → (es : List Expr) →
        Expression ts i j e → Following ts j k es → Arguments ts i k (e ∷ es)

  -- the arguments after the first, up to and with the closing parenthesis
  pub data Following : List Token → ℕ → ℕ → List Expr → Type 0 where
    last_argument : (ts : List Token) → (i : ℕ) → kind_at ts i ≡ Some (Mark mark.RightParen) →
        Following ts i (i + 1) []
    next_argument : (ts : List Token) → (i j k : ℕ) → (e : Expr) → (es : List Expr)
        → kind_at ts i ≡ Some (Mark mark.Comma) → Expression ts (i + 1) j e → Following ts j k es →
        Following ts i k (e ∷ es)

-- an expression, up to and with the mark after it
pub data UpTo : TheMark → List Token → ℕ → ℕ → Expr → Type 0 where
  ended : (m : TheMark) → (ts : List Token) → (i j : ℕ) → (e : Expr) → Expression ts i j e →
      kind_at ts j ≡ Some (Mark m) → UpTo m ts i (j + 1) e

-- an expression in parentheses
abbrev pub Test : List Token → ℕ → ℕ → Expr → Type 0
Test ts i j e = (kind_at ts i ≡ Some (Mark mark.LeftParen)) × UpTo mark.RightParen ts (i + 1) j e
