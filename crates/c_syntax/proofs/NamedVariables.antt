-- The variables of an expression that tokens spell are names.
use Rattle.std.proofs.Common.{ℕ, ◌+◌, ◌<◌, List, [], ◌∷◌, ◌++◌, length, map, arith}
use Rattle.std.specs.List.{All, concat}
use Rattle.std.proofs.lemmas.List.Elements.{All-append, All-push}
use Rattle.c_lex.specs.declared.token.Token.{Token}
use Rattle.c_lex.specs.declared.token.TokenKind.TheVariants.{Name}
use Rattle.c_ast.specs.declared.expr.Expr.{Expr}
use Rattle.c_ast.specs.declared.expr.Expr.TheVariants.{Binary}
use Rattle.c_ast.specs.Variables.{variables}
use Rattle.c_ast.proofs.Equations.{variables-Lit, variables-Var, variables-Unary, variables-Binary, variables-Choose, variables-Apply}
use Rattle.c_syntax.specs.Grammar.{levels, Expression, plain, choice, BinaryAt, signed, chain, Operands, done, more, UnaryExpression, unsigned, prefixed, PrimaryExpression, number, name, call, parens, Arguments, no_arguments, arguments, Following, last_argument, next_argument}
use Rattle.c_syntax.specs.Names.{IsName}
use Rattle.c_syntax.proofs.Lookahead.{kind_within}

-- what holds of the first and of each after it
pub all_cons : {A : Type 0} (P : A → Type 0) (x : A) (xs : List A) → P x → All P xs → All P (x ∷ xs)
all_cons P x xs h t = All-append P (x ∷ []) xs (All-push P [] x (λ k d h. absurd (omega arith)) h) t

-- nothing is in an empty list
pub all_none : {A : Type 0} (P : A → Type 0) → All P []
all_none P = λ k d h. absurd (omega arith)

mutual
  -- the variables of an expression are names
  pub whole_named : (ts : List Token) (i j : ℕ) (e : Expr) → Expression ts i j e →
      All (IsName ts) (variables e)
  whole_named ts i j e (plain _ _ _ _ l) = level_named ts levels i j e l
  whole_named ts i j e (choice _ _ k m _ c a b l q w p u) =
      rw (variables-Choose c a b) (All-append (IsName ts) (variables c ++ variables a) (variables b)
      (All-append (IsName ts) (variables c) (variables a) (level_named ts levels i k c l)
      (whole_named ts (k + 1) m a w)) (whole_named ts (m + 1) j b u))

  level_named : (ts : List Token) (n i j : ℕ) (e : Expr) → BinaryAt ts n i j e →
      All (IsName ts) (variables e)
  level_named ts n i j e (signed _ _ _ _ s) = signed_named ts i j e s
  level_named ts n i j e (chain _ m _ k _ a _ l r) =
      rest_named ts m a k j e r (level_named ts m i k a l)

  rest_named : (ts : List Token) (n : ℕ) (a : Expr) (i j : ℕ) (e : Expr) → Operands ts n a i j e →
      All (IsName ts) (variables a) → All (IsName ts) (variables e)
  rest_named ts n a i j e (done _ _ _ _) h = h
  rest_named ts n a i j e (more _ _ _ _ k _ op b _ o l r) h =
      rest_named ts n (Binary op a b) k j e r
      (rw (variables-Binary op a b) (All-append (IsName ts) (variables a) (variables b) h
      (level_named ts n (i + 1) k b l)))

  signed_named : (ts : List Token) (i j : ℕ) (e : Expr) → UnaryExpression ts i j e →
      All (IsName ts) (variables e)
  signed_named ts i j e (unsigned _ _ _ _ p) = primary_named ts i j e p
  signed_named ts i j e (prefixed _ _ _ op a h s) =
      rw (variables-Unary op a) (signed_named ts (i + 1) j a s)

  primary_named : (ts : List Token) (i j : ℕ) (e : Expr) → PrimaryExpression ts i j e →
      All (IsName ts) (variables e)
  primary_named ts i j e (number _ _ value h) = rw (variables-Lit value) (all_none (IsName ts))
  primary_named ts i j e (name _ _ h) =
      rw (variables-Var i) (all_cons (IsName ts) i [] h (all_none (IsName ts)))
  primary_named ts i j e (call _ _ _ es h p r) =
      rw (variables-Apply i es) (arguments_named ts (i + 2) j es r)
  primary_named ts i j e (parens _ _ k _ h w c) = whole_named ts (i + 1) k e w

  arguments_named : (ts : List Token) (i j : ℕ) (es : List Expr) → Arguments ts i j es →
      All (IsName ts) (concat (map variables es))
  arguments_named ts i j es (no_arguments _ _ h) = all_none (IsName ts)
  arguments_named ts i j es (arguments _ _ k _ e rest w f) =
      All-append (IsName ts) (variables e) (concat (map variables rest)) (whole_named ts i k e w)
      (following_named ts k j rest f)

  following_named : (ts : List Token) (i j : ℕ) (es : List Expr) → Following ts i j es →
      All (IsName ts) (concat (map variables es))
  following_named ts i j es (last_argument _ _ h) = all_none (IsName ts)
  following_named ts i j es (next_argument _ _ k _ e rest h w f) =
      All-append (IsName ts) (variables e) (concat (map variables rest))
      (whole_named ts (i + 1) k e w) (following_named ts k j rest f)

-- a name in a tree is the number of one of the tokens
pub named_below : (ts : List Token) (k : ℕ) → IsName ts k → k < length ts
named_below ts k h = kind_within ts k Name h
