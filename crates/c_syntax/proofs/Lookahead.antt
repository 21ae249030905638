-- Which tokens stop an expression, and how heights grow along a chain of operators.
use Rattle.std.proofs.Common.{◌≡◌, ℕ, zero, suc, ◌+◌, ◌≤◌, ◌<◌, max, Option, Some, None, List, [], ◌∷◌, length, refl, sym, ◌∙◌, ap, arith}
use Rattle.c_lex.specs.declared.token.Token.{Token}
use Rattle.c_lex.specs.declared.token.TokenKind.{TokenKind}
use Rattle.c_lex.specs.declared.token.TokenKind.TheVariants.{Mark}
use Rattle.c_lex.specs.declared.token.Mark.TheVariants.{LeftParen, RightParen, Comma, Semicolon, Question, Colon}
use Rattle.c_ast.specs.declared.expr.BinOp.{BinOp}
use Rattle.c_ast.specs.declared.expr.UnOp.{UnOp}
use Rattle.c_ast.specs.declared.expr.Expr.{Expr}
use Rattle.c_ast.specs.declared.expr.Expr.TheVariants.{Binary}
use Rattle.c_ast.specs.Height.{expr_height}
use Rattle.c_ast.proofs.Equations.{height-Binary}
use Rattle.c_syntax.specs.Grammar.{kind_at, Operator, infixed, binary_of, unary_of, levels, Operands, done, more}
use Rattle.c_syntax.specs.Readers.{Stops}

-- where a token is, the list goes on
pub kind_within : (ts : List Token) (i : ℕ) (k : TokenKind) → kind_at ts i ≡ Some k → i < length ts
unfolding kind_at
kind_within [] i k h = cc
kind_within (t ∷ ts) zero k h = omega arith
kind_within (t ∷ ts) (suc i) k h = let below : i < length ts = kind_within ts i k h in omega arith

-- a token has one level
pub same_level : (n m : ℕ) (op other : BinOp) → Some (infixed n op) ≡ Some (infixed m other) → n ≡ m
same_level n m op other h = cc

-- no operator is where a token of another kind is
not_infixed : (ts : List Token) (i n : ℕ) (op : BinOp) (k : TokenKind) → binary_of (Some k) ≡ None →
    kind_at ts i ≡ Some k → binary_of (kind_at ts i) ≡ Some (infixed n op) → ⊥
not_infixed ts i n op k no_operator h g =
    let contradiction : None ≡ Some (infixed n op) = sym no_operator ∙ (ap binary_of (sym h) ∙ g) in
    cc

-- an operator of a level stops the levels below it, and a chain of that level ends where they stop
pub rest_stops : (ts : List Token) (n : ℕ) (a : Expr) (i k : ℕ) (e : Expr) → Operands ts n a i k e →
    Stops ts (suc n) k → Stops ts n i
rest_stops ts n a i k e (done _ _ _ _) s = record {
  operator = λ m op h. let higher : suc n ≤ m = s.operator m op h in omega arith;
  choice = λ h. let below : suc n ≤ levels = s.choice h in omega arith;
  call = s.call;
}
rest_stops ts n a i k e (more _ _ _ _ j _ op b _ h l r) s = record {
  operator = λ m other g. let same : n ≡ m = same_level n m op other (sym h ∙ g) in omega arith;
  choice = λ g. absurd (not_infixed ts i n op (Mark Question) refl g h);
  call = λ g. not_infixed ts i n op (Mark LeftParen) refl g h;
}

-- what stops many levels stops fewer
pub fewer_stop : (ts : List Token) (n i : ℕ) → Stops ts (suc n) i → Stops ts n i
fewer_stop ts n i s = record {
  operator = λ m op h. let higher : suc n ≤ m = s.operator m op h in omega arith;
  choice = λ h. let below : suc n ≤ levels = s.choice h in omega arith;
  call = s.call;
}

-- a token that goes on with no expression stops every level
pub token_stops : (ts : List Token) (n i : ℕ) (k : TokenKind) → kind_at ts i ≡ Some k →
    binary_of (Some k) ≡ None → (k ≡ Mark Question → ⊥) → (k ≡ Mark LeftParen → ⊥) → Stops ts n i
token_stops ts n i k h no_operator no_question no_call = record {
  operator = λ m op g. absurd (not_infixed ts i m op k no_operator h g);
  choice = λ g. let same : k ≡ Mark Question = cc in absurd (no_question same);
  call = λ g. let same : k ≡ Mark LeftParen = cc in no_call same;
}

-- a closing parenthesis stops every level
pub paren_stops : (ts : List Token) (n i : ℕ) → kind_at ts i ≡ Some (Mark RightParen) → Stops ts n i
paren_stops ts n i h = token_stops ts n i (Mark RightParen) h refl (λ e. cc) (λ e. cc)

-- so does a comma
pub comma_stops : (ts : List Token) (n i : ℕ) → kind_at ts i ≡ Some (Mark Comma) → Stops ts n i
comma_stops ts n i h = token_stops ts n i (Mark Comma) h refl (λ e. cc) (λ e. cc)

-- so does a colon
pub colon_stops : (ts : List Token) (n i : ℕ) → kind_at ts i ≡ Some (Mark Colon) → Stops ts n i
colon_stops ts n i h = token_stops ts n i (Mark Colon) h refl (λ e. cc) (λ e. cc)

-- so does a semicolon
pub semicolon_stops : (ts : List Token) (n i : ℕ) → kind_at ts i ≡ Some (Mark Semicolon) →
    Stops ts n i
semicolon_stops ts n i h = token_stops ts n i (Mark Semicolon) h refl (λ e. cc) (λ e. cc)

-- a question mark stops all levels of operators
pub question_stops : (ts : List Token) (i : ℕ) → kind_at ts i ≡ Some (Mark Question) →
    Stops ts levels i
question_stops ts i h = record {
  operator = λ m op g. absurd (not_infixed ts i m op (Mark Question) refl h g);
  choice = λ g. omega arith;
  call = λ g. cc;
}

-- a chain is at least as high as its first operand
pub rest_higher : (ts : List Token) (n : ℕ) (a : Expr) (i k : ℕ) (e : Expr) →
    Operands ts n a i k e → expr_height a ≤ expr_height e
rest_higher ts n a i k e (done _ _ _ _) = omega arith
rest_higher ts n a i k e (more _ _ _ _ j _ op b _ h l r) =
    let higher : expr_height (Binary op a b) ≤ expr_height e =
    rest_higher ts n (Binary op a b) j k e r in
    let here : expr_height (Binary op a b) ≡ 1 + max (expr_height a) (expr_height b) =
    height-Binary op a b in
    omega arith

-- where an operator is, a token is
pub operator_is_token : (k : Option TokenKind) (o : Operator) → binary_of k ≡ Some o → (t : TokenKind) ×
    (k ≡ Some t)
operator_is_token None o h = cc
operator_is_token (Some t) o h = (t, refl)

-- where an operator is, the list goes on
pub operator_within : (ts : List Token) (i n : ℕ) (op : BinOp) → binary_of (kind_at ts i) ≡
    Some (infixed n op) → i < length ts
operator_within ts i n op h =
    let stands : (t : TokenKind) × (kind_at ts i ≡ Some t) =
    operator_is_token (kind_at ts i) (infixed n op) h in
    kind_within ts i stands.0 stands.1

-- where an operator before an operand is, a token is
pub sign_is_token : (k : Option TokenKind) (op : UnOp) → unary_of k ≡ Some op → (t : TokenKind) ×
    (k ≡ Some t)
sign_is_token None op h = cc
sign_is_token (Some t) op h = (t, refl)

-- where an operator before an operand is, the list goes on
pub sign_within : (ts : List Token) (i : ℕ) (op : UnOp) → unary_of (kind_at ts i) ≡ Some op → i <
    length ts
sign_within ts i op h =
    let stands : (t : TokenKind) × (kind_at ts i ≡ Some t) = sign_is_token (kind_at ts i) op h in
    kind_within ts i stands.0 stands.1

-- after the end of the list there is no token
pub nothing_over : (ts : List Token) → kind_at ts (length ts) ≡ None
unfolding kind_at
nothing_over [] = refl
nothing_over (t ∷ ts) = nothing_over ts

-- the end of the list stops every level
pub over_stops : (ts : List Token) (n : ℕ) → Stops ts n (length ts)
over_stops ts n =
    let over : kind_at ts (length ts) ≡ None = nothing_over ts in
    record {
      operator =
          λ m op h. let contradiction : None ≡ Some (infixed m op) = ap binary_of (sym over) ∙ h in
          absurd cc;
      choice = λ h. absurd cc;
      call = λ h. cc;
    }
