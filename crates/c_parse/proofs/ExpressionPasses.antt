-- The recogniser passes over each expression, from its first token to its end.
use Rattle.std.proofs.Common.{◌≡◌, ℕ, ◌+◌, Option, Some, None, List, [], ◌∷◌, refl, sym, ◌∙◌, ap}
use Rattle.c_syntax.proofs.Lookahead.{operator_is_token, sign_is_token}
use Rattle.rx_plain.proofs.Naturals.{two_more}
use Rattle.c_lex.specs.declared.token.Token.{Token}
use Rattle.c_lex.specs.declared.token.TokenKind.{TokenKind}
use Rattle.c_lex.specs.declared.token.TokenKind.TheVariants.{Name, Number, Mark}
use Rattle.c_lex.specs.declared.token.Mark.TheVariants as mark
use Rattle.c_ast.specs.declared.expr.UnOp.{UnOp}
use Rattle.c_ast.specs.declared.expr.BinOp.{BinOp}
use Rattle.c_ast.specs.declared.expr.Expr.{Expr}
use Rattle.c_syntax.specs.Grammar.{kind_at, infixed, binary_of, unary_of, levels, Expression, plain, choice, BinaryAt, signed, chain, Operands, done, more, UnaryExpression, unsigned, prefixed, PrimaryExpression, number, name, call, parens, Arguments, no_arguments, arguments, Following, last_argument, next_argument}
use Rattle.c_syntax.proofs.Passing.{whole_opens}
use Rattle.c_parse.specs.declared.symbol.Symbol.{Symbol}
use Rattle.c_parse.specs.declared.symbol.Symbol.TheVariants as symbol
use Rattle.c_parse.specs.Actions.{takes, skips, before, expression_action, operator_action, going_action, called_action, arguments_action}
use Rattle.c_parse.proofs.Running.{fault_at, taken, skipped, alike, handed}

-- an operator before an operand is taken
sign_action : (k : TokenKind) (op : UnOp) → unary_of (Some k) ≡ Some op →
    expression_action (Some k) ≡ takes (symbol.Expression ∷ [])
sign_action (Mark mark.Plus) op h = refl
sign_action (Mark mark.Minus) op h = refl
sign_action (Mark mark.Not) op h = refl
sign_action _ op h = absurd cc

-- an expression is never skipped
pub expression_stays : (k : Option TokenKind) → expression_action k ≡ skips → ⊥
expression_stays (Some Name) h = cc
expression_stays (Some (Number value)) h = cc
expression_stays (Some (Mark mark.LeftParen)) h = cc
expression_stays (Some (Mark mark.Plus)) h = cc
expression_stays (Some (Mark mark.Minus)) h = cc
expression_stays (Some (Mark mark.Not)) h = cc
expression_stays _ h = cc

-- after a name, what isn't `(` is as after any operand
called_alike : (k : Option TokenKind) → (k ≡ Some (Mark mark.LeftParen) → ⊥) → called_action k ≡
    going_action k
called_alike (Some (Mark mark.LeftParen)) free = absurd (free refl)
called_alike _ free = refl

-- what goes on neither with a call nor with an operator
called_over : (k : Option TokenKind) → called_action k ≡ skips → going_action k ≡ skips
called_over (Some (Mark mark.LeftParen)) h = absurd cc
called_over _ h = h

called_apart : (k : TokenKind) → called_action (Some k) ≡ skips → k ≡ Mark mark.LeftParen → ⊥
called_apart k h same =
    let there : called_action (Some (Mark mark.LeftParen)) ≡ skips = rw same at h in cc

-- arguments that don't begin with `)` begin with an expression
arguments_open : (k : Option TokenKind) → (k ≡ Some (Mark mark.RightParen) → ⊥) →
    arguments_action k ≡ before (symbol.Following ∷ []) (expression_action k)
arguments_open (Some (Mark mark.RightParen)) free = absurd (free refl)
arguments_open _ free = refl

module _ (ts : List Token) where
  -- a token that ends an expression
  pub apart : (i : ℕ) (k : TokenKind) → kind_at ts i ≡ Some k → called_action (Some k) ≡ skips →
      kind_at ts i ≡ Some (Mark mark.LeftParen) → ⊥
  apart i k h a z = let same : k ≡ Mark mark.LeftParen = cc in called_apart k a same

  -- at such a token nothing goes on
  pub over : (i : ℕ) (k : TokenKind) (ss : List Symbol) → kind_at ts i ≡ Some k →
      called_action (Some k) ≡ skips → fault_at ts (symbol.Going ∷ ss) i ≡ fault_at ts ss i
  over i k ss h a = skipped ts symbol.Going ss i (Some k) h (called_over (Some k) a)

  infix_taken : (i n : ℕ) (op : BinOp) (ss : List Symbol) → binary_of (kind_at ts i) ≡
      Some (infixed n op) → fault_at ts (symbol.Going ∷ ss) i ≡
      fault_at ts (symbol.Expression ∷ ss) (i + 1)
  infix_taken i n op ss h =
      let t = operator_is_token (kind_at ts i) (infixed n op) h in
      let o : binary_of (Some t.0) ≡ Some (infixed n op) = ap binary_of (sym t.1) ∙ h in
      taken ts symbol.Going ss i t.0 (symbol.Expression ∷ []) t.1
      (ap (λ z. operator_action z (Some t.0)) o)

  sign_taken : (i : ℕ) (op : UnOp) (ss : List Symbol) → unary_of (kind_at ts i) ≡ Some op →
      fault_at ts (symbol.Expression ∷ ss) i ≡ fault_at ts (symbol.Expression ∷ ss) (i + 1)
  sign_taken i op ss h =
      let t = sign_is_token (kind_at ts i) op h in
      let o : unary_of (Some t.0) ≡ Some op = ap unary_of (sym t.1) ∙ h in
      taken ts symbol.Expression ss i t.0 (symbol.Expression ∷ []) t.1 (sign_action t.0 op o)

  -- where a chain isn't called at its end, its first operand isn't
  first_uncalled : (n : ℕ) (a : Expr) (i k : ℕ) (e : Expr) → Operands ts n a i k e →
      (kind_at ts k ≡ Some (Mark mark.LeftParen) → ⊥) → kind_at ts i ≡ Some (Mark mark.LeftParen) →
      ⊥
  first_uncalled n a i k e (done _ _ _ _) free = free
  first_uncalled n a i k e (more _ _ _ _ j _ op b _ h l r) free =
      λ z. let contradiction : None ≡ Some (infixed n op) = ap binary_of (sym z) ∙ h in cc

  -- what is after an argument ends it
  argument_over : (i k : ℕ) (es : List Expr) → Following ts i k es → (t : TokenKind) ×
      ((kind_at ts i ≡ Some t) × (called_action (Some t) ≡ skips))
  argument_over i k es (last_argument _ _ h) = (Mark mark.RightParen, (h, refl))
  argument_over i k es (next_argument _ _ _ _ _ _ h w r) = (Mark mark.Comma, (h, refl))

  mutual
    pub whole_passes : (i j : ℕ) (e : Expr) → Expression ts i j e →
        (kind_at ts j ≡ Some (Mark mark.LeftParen) → ⊥) → (ss : List Symbol)
        → fault_at ts (symbol.Expression ∷ ss) i ≡ fault_at ts (symbol.Going ∷ ss) j
    whole_passes i j e (plain _ _ _ _ l) free ss = level_passes levels i j e l free ss
    whole_passes i l e (choice _ _ j k _ c a b v q w p u) free ss =
        level_passes levels i j c v (λ z. cc) ss
        ∙ (taken ts symbol.Going ss j (Mark mark.Question)
        (symbol.Expression ∷ symbol.Colon ∷ symbol.Expression ∷ []) q refl
        ∙ (whole_passes (j + 1) k a w (apart k (Mark mark.Colon) p refl)
        (symbol.Colon ∷ symbol.Expression ∷ ss) ∙
        over k (Mark mark.Colon) (symbol.Colon ∷ symbol.Expression ∷ ss) p refl
        ∙ (taken ts symbol.Colon (symbol.Expression ∷ ss) k (Mark mark.Colon) [] p refl ∙
        whole_passes (k + 1) l b u free ss)))

    level_passes : (n i j : ℕ) (e : Expr) → BinaryAt ts n i j e →
        (kind_at ts j ≡ Some (Mark mark.LeftParen) → ⊥) → (ss : List Symbol)
        → fault_at ts (symbol.Expression ∷ ss) i ≡ fault_at ts (symbol.Going ∷ ss) j
    level_passes n i j e (signed _ _ _ _ u) free ss = signed_passes i j e u free ss
    level_passes n i k e (chain _ m _ j _ a _ l r) free ss =
        level_passes m i j a l (first_uncalled m a j k e r free) ss ∙
        rest_passes m a j k e r free ss

    rest_passes : (n : ℕ) (a : Expr) (i k : ℕ) (e : Expr) → Operands ts n a i k e →
        (kind_at ts k ≡ Some (Mark mark.LeftParen) → ⊥) → (ss : List Symbol)
        → fault_at ts (symbol.Going ∷ ss) i ≡ fault_at ts (symbol.Going ∷ ss) k
    rest_passes n a i k e (done _ _ _ _) free ss = refl
    rest_passes n a i k e (more _ _ _ _ j _ op b _ h l r) free ss =
        infix_taken i n op ss h ∙ (level_passes n (i + 1) j b l (first_uncalled n _ j k e r free) ss
        ∙ rest_passes n _ j k e r free ss)

    signed_passes : (i j : ℕ) (e : Expr) → UnaryExpression ts i j e →
        (kind_at ts j ≡ Some (Mark mark.LeftParen) → ⊥) → (ss : List Symbol)
        → fault_at ts (symbol.Expression ∷ ss) i ≡ fault_at ts (symbol.Going ∷ ss) j
    signed_passes i j e (unsigned _ _ _ _ p) free ss = primary_passes i j e p free ss
    signed_passes i j e (prefixed _ _ _ op a h u) free ss =
        sign_taken i op ss h ∙ signed_passes (i + 1) j a u free ss

    primary_passes : (i j : ℕ) (e : Expr) → PrimaryExpression ts i j e →
        (kind_at ts j ≡ Some (Mark mark.LeftParen) → ⊥) → (ss : List Symbol)
        → fault_at ts (symbol.Expression ∷ ss) i ≡ fault_at ts (symbol.Going ∷ ss) j
    primary_passes i j e (number _ _ value h) free ss =
        taken ts symbol.Expression ss i (Number value) (symbol.Going ∷ []) h refl
    primary_passes i j e (name _ _ h) free ss =
        taken ts symbol.Expression ss i Name (symbol.Called ∷ []) h refl ∙
        alike ts symbol.Called symbol.Going ss (i + 1) (called_alike (kind_at ts (i + 1)) free)
    primary_passes i j e (call _ _ _ es h p r) free ss =
        taken ts symbol.Expression ss i Name (symbol.Called ∷ []) h refl
        ∙ (taken ts symbol.Called ss (i + 1) (Mark mark.LeftParen)
        (symbol.Arguments ∷ symbol.Going ∷ []) p refl
        ∙ (ap (fault_at ts (symbol.Arguments ∷ symbol.Going ∷ ss)) (two_more i) ∙
        arguments_passes (i + 2) j es r (symbol.Going ∷ ss)))
    primary_passes i j e (parens _ _ k _ h w c) free ss =
        taken ts symbol.Expression ss i (Mark mark.LeftParen)
        (symbol.Expression ∷ symbol.RightParen ∷ symbol.Going ∷ []) h refl
        ∙ (whole_passes (i + 1) k e w (apart k (Mark mark.RightParen) c refl)
        (symbol.RightParen ∷ symbol.Going ∷ ss) ∙
        over k (Mark mark.RightParen) (symbol.RightParen ∷ symbol.Going ∷ ss) c refl
        ∙ taken ts symbol.RightParen (symbol.Going ∷ ss) k (Mark mark.RightParen) [] c refl)

    arguments_passes : (i j : ℕ) (es : List Expr) → Arguments ts i j es → (ss : List Symbol) →
        fault_at ts (symbol.Arguments ∷ ss) i ≡ fault_at ts ss j
    arguments_passes i j es (no_arguments _ _ h) ss =
        taken ts symbol.Arguments ss i (Mark mark.RightParen) [] h refl
    arguments_passes i k es (arguments _ _ j _ e rest w r) ss =
        let t = argument_over j k rest r in
        handed ts symbol.Arguments symbol.Expression (symbol.Following ∷ []) ss i
        (expression_stays (kind_at ts i))
        (arguments_open (kind_at ts i) (whole_opens ts i j e w))
        ∙ (whole_passes i j e w (apart j t.0 t.1.0 t.1.1) (symbol.Following ∷ ss) ∙
        (over j t.0 (symbol.Following ∷ ss) t.1.0 t.1.1 ∙ following_passes j k rest r ss))

    following_passes : (i j : ℕ) (es : List Expr) → Following ts i j es → (ss : List Symbol) →
        fault_at ts (symbol.Following ∷ ss) i ≡ fault_at ts ss j
    following_passes i j es (last_argument _ _ h) ss =
        taken ts symbol.Following ss i (Mark mark.RightParen) [] h refl
    following_passes i k es (next_argument _ _ j _ e rest h w r) ss =
        let t = argument_over j k rest r in
        taken ts symbol.Following ss i (Mark mark.Comma) (symbol.Expression ∷ symbol.Following ∷ [])
        h refl
        ∙ (whole_passes (i + 1) j e w (apart j t.0 t.1.0 t.1.1) (symbol.Following ∷ ss) ∙
        (over j t.0 (symbol.Following ∷ ss) t.1.0 t.1.1 ∙ following_passes j k rest r ss))

  -- the recogniser passes over an expression and stops at a token that ends it
  pub expression_ends : (i j : ℕ) (e : Expr) (k : TokenKind) → Expression ts i j e → kind_at ts j ≡
      Some k → called_action (Some k) ≡ skips → (ss : List Symbol)
      → fault_at ts (symbol.Expression ∷ ss) i ≡ fault_at ts ss j
  expression_ends i j e k w h a ss = whole_passes i j e w (apart j k h a) ss ∙ over j k ss h a
