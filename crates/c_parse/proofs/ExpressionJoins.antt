-- An operand and what comes after it as one expression: an expression grows by an operand and an
-- operator before it, whatever its operators are.
use Rattle.std.proofs.Common.{◌≡◌, ℕ, zero, suc, ◌+◌, ◌<◌, Option, Some, List, inl, inr, refl, lit<, arith}
use Rattle.std.proofs.lemmas.Bool.{cases_lt}
use Rattle.c_lex.specs.declared.token.Token.{Token}
use Rattle.c_lex.specs.declared.token.TokenKind.{TokenKind}
use Rattle.c_lex.specs.declared.token.TokenKind.TheVariants.{Name, Mark}
use Rattle.c_lex.specs.declared.token.Mark.TheVariants as mark
use Rattle.c_ast.specs.declared.expr.UnOp.{UnOp}
use Rattle.c_ast.specs.declared.expr.BinOp.{BinOp}
use Rattle.c_ast.specs.declared.expr.BinOp.TheVariants as binary
use Rattle.c_ast.specs.declared.expr.Expr.{Expr}
use Rattle.c_ast.specs.declared.expr.Expr.TheVariants.{Var, Unary, Binary, Choose, Apply}
use Rattle.c_syntax.specs.Grammar.{kind_at, infixed, binary_of, unary_of, levels, Expression, plain, choice, BinaryAt, signed, chain, Operands, done, more, UnaryExpression, unsigned, prefixed, PrimaryExpression, name, call, Arguments}
use Rattle.c_parse.proofs.ExpressionSpans.{AfterOperand, ended, operated, asked, AfterName, uncalled, called}

-- some tree of which this holds
abbrev pub SomeTree : (Expr → Type 0) → Type 0
SomeTree P = (e : Expr) × P e

-- the operators of a level go on with any operand before them
rebased : (ts : List Token) (n : ℕ) (a : Expr) (i k : ℕ) (e b : Expr) → Operands ts n a i k e →
    SomeTree (Operands ts n b i k)
rebased ts n a i k e b (done _ _ _ _) = (b, done ts n b i)
rebased ts n a i k e b (more _ _ _ _ j _ op c _ h l r) =
    let on = rebased ts n (Binary op a c) j k e (Binary op b c) r in
    (on.0, more ts n b i j k op c on.0 h l on.1)

-- an operand is a chain of any level
lifted : (ts : List Token) (n i j : ℕ) (e : Expr) → UnaryExpression ts i j e → BinaryAt ts n i j e
lifted ts zero i j e u = signed ts i j e u
lifted ts (suc n) i j e u = chain ts n i j j e e (lifted ts n i j e u) (done ts n e j)

-- an operator before a chain
signed_chain : (ts : List Token) (i : ℕ) (op : UnOp) → unary_of (kind_at ts i) ≡ Some op →
    (n at k : ℕ) (e : Expr) → at ≡ i + 1 → BinaryAt ts n at k e → SomeTree (BinaryAt ts n i k)
signed_chain ts i op h n at k e is (signed _ _ _ _ u) =
    let there : UnaryExpression ts (i + 1) k e = rw is at u in
    (Unary op e, signed ts i k (Unary op e) (prefixed ts i k op e h there))
signed_chain ts i op h n at k e is (chain _ m _ j _ a _ l r) =
    let first = signed_chain ts i op h m at j a is l in
    let rest = rebased ts m a j k e first.0 r in
    (rest.0, chain ts m i j k first.0 rest.0 first.1 rest.1)

-- an operator before an expression
pub signed_whole : (ts : List Token) (i : ℕ) (op : UnOp) → unary_of (kind_at ts i) ≡ Some op →
    (at k : ℕ) (e : Expr) → at ≡ i + 1 → Expression ts at k e → SomeTree (Expression ts i k)
signed_whole ts i op h at k e is (plain _ _ _ _ l) =
    let first = signed_chain ts i op h levels at k e is l in (first.0, plain ts i k first.0 first.1)
signed_whole ts i op h at k e is (choice _ _ j m _ c a b l q w p v) =
    let first = signed_chain ts i op h levels at j c is l in
    (Choose first.0 a b, choice ts i j m k first.0 a b first.1 q w p v)

module _ (ts : List Token) (i h m : ℕ) (op : BinOp) (u : Expr) (operand : UnaryExpression ts i h u)
    (o : binary_of (kind_at ts h) ≡ Some (infixed m op)) where
  -- an operand and an operator before a chain
  operated_chain : (n at k : ℕ) (e : Expr) → at ≡ h + 1 → m < n → BinaryAt ts n at k e →
      SomeTree (BinaryAt ts n i k)
  operated_chain n at k e is low (signed _ _ _ _ q) = absurd (omega arith)
  operated_chain n at k e is low (chain _ r _ j _ a _ l rest) =
      elim (cases_lt m r) [
        | inl below ↦
            let first = operated_chain r at j a is below l in
            let others = rebased ts r a j k e first.0 rest in
            (others.0, chain ts r i j k first.0 others.0 first.1 others.1)
        | inr above ↦
            let same : m ≡ r = omega arith in
            let here : binary_of (kind_at ts h) ≡ Some (infixed r op) = rw (← same) o in
            let there : BinaryAt ts r (h + 1) j a = rw is at l in
            let others = rebased ts r a j k e (Binary op u a) rest in (
              others.0,
              chain ts r i h k u others.0 (lifted ts r i h u operand)
                  (more ts r u h j k op a others.0 here there others.1),
            )
      ]

  -- the same before an expression
  pub operated_whole : (at k : ℕ) (e : Expr) → at ≡ h + 1 → m < levels → Expression ts at k e →
      SomeTree (Expression ts i k)
  operated_whole at k e is low (plain _ _ _ _ l) =
      let first = operated_chain levels at k e is low l in (first.0, plain ts i k first.0 first.1)
  operated_whole at k e is low (choice _ _ j n _ c a b l q w p v) =
      let first = operated_chain levels at j c is low l in
      (Choose first.0 a b, choice ts i j n k first.0 a b first.1 q w p v)

-- each operator is of one of the levels
low_is : (n m : ℕ) (op other : BinOp) → Some (infixed n op) ≡ Some (infixed m other) → n < levels →
    m < levels
low_is n m op other h low = let same : n ≡ m = cc in omega arith

operator_low : (kind : Option TokenKind) (m : ℕ) (op : BinOp) → binary_of kind ≡
    Some (infixed m op) → m < levels
operator_low (Some (Mark mark.Star)) m op h = low_is 0 m binary.Mul op h (lit< tt)
operator_low (Some (Mark mark.Slash)) m op h = low_is 0 m binary.Div op h (lit< tt)
operator_low (Some (Mark mark.Percent)) m op h = low_is 0 m binary.Rem op h (lit< tt)
operator_low (Some (Mark mark.Plus)) m op h = low_is 1 m binary.Add op h (lit< tt)
operator_low (Some (Mark mark.Minus)) m op h = low_is 1 m binary.Sub op h (lit< tt)
operator_low (Some (Mark mark.Less)) m op h = low_is 2 m binary.Lt op h (lit< tt)
operator_low (Some (Mark mark.LessEqual)) m op h = low_is 2 m binary.Le op h (lit< tt)
operator_low (Some (Mark mark.Greater)) m op h = low_is 2 m binary.Gt op h (lit< tt)
operator_low (Some (Mark mark.GreaterEqual)) m op h = low_is 2 m binary.Ge op h (lit< tt)
operator_low (Some (Mark mark.EqualEqual)) m op h = low_is 3 m binary.Eq op h (lit< tt)
operator_low (Some (Mark mark.NotEqual)) m op h = low_is 3 m binary.Ne op h (lit< tt)
operator_low (Some (Mark mark.AndAnd)) m op h = low_is 4 m binary.AndAlso op h (lit< tt)
operator_low (Some (Mark mark.OrOr)) m op h = low_is 5 m binary.OrElse op h (lit< tt)
operator_low _ m op h = absurd cc

-- an operand and what comes after it
pub joined : (ts : List Token) (i at j : ℕ) (u : Expr) → PrimaryExpression ts i at u →
    AfterOperand ts at j → SomeTree (Expression ts i j)
joined ts i at j u p (ended _ _) =
    (u, plain ts i j u (lifted ts levels i j u (unsigned ts i j u p)))
joined ts i at j u p (operated _ _ _ n op e o w) =
    operated_whole ts i at n op u (unsigned ts i at u p) o (at + 1) j e refl
    (operator_low (kind_at ts at) n op o) w
joined ts i at k u p (asked _ _ j _ a b q w c v) = (
  Choose u a b,
  choice ts i at j k u a b (lifted ts levels i at u (unsigned ts i at u p)) q w c
      v,
)

-- a name and what comes after it
pub named : (ts : List Token) (i at j : ℕ) → kind_at ts i ≡ Some Name → at ≡ i + 1 →
    AfterName ts at j → SomeTree (Expression ts i j)
named ts i at j h is (uncalled _ _ _ r) =
    let there : AfterOperand ts (i + 1) j = rw is at r in
    joined ts i (i + 1) j (Var i) (name ts i h) there
named ts i at k h is (called _ _ j _ es p a r) =
    let opens : kind_at ts (i + 1) ≡ Some (Mark mark.LeftParen) = rw is at p in
    let two : at + 1 ≡ i + 2 = omega arith in
    let holds : Arguments ts (i + 2) j es = rw two at a in
    joined ts i j k (Apply i es) (call ts i j es h opens holds) r
