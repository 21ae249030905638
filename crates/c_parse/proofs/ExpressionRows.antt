-- Each row of the table for a token alone or a part of an expression is a rule of the grammar:
-- where what it expects is spanned, the symbol is.
use Rattle.std.proofs.Common.{◌≡◌, ℕ, ◌+◌, Option, Some, None, List, [], ◌∷◌, refl, ◌∙◌, ap}
use Rattle.c_lex.specs.declared.token.Token.{Token}
use Rattle.c_lex.specs.declared.token.TokenKind.{TokenKind}
use Rattle.c_lex.specs.declared.token.TokenKind.TheVariants.{Name, Number, Word, Mark}
use Rattle.c_lex.specs.declared.token.Keyword.TheVariants as word
use Rattle.c_lex.specs.declared.token.Mark.TheVariants as mark
use Rattle.c_ast.specs.declared.expr.Expr.TheVariants.{Lit}
use Rattle.c_ast.specs.declared.expr.UnOp.{UnOp}
use Rattle.c_ast.specs.declared.expr.UnOp.TheVariants as sign
use Rattle.c_syntax.specs.Grammar.{kind_at, Operator, infixed, binary_of, unary_of, number, parens, no_arguments, arguments, last_argument, next_argument}
use Rattle.c_parse.specs.declared.symbol.Symbol.TheVariants as symbol
use Rattle.c_parse.specs.Actions.{skips, before, name_action, left_paren_action, right_paren_action, colon_action, semicolon_action, while_action, expression_action, operator_action, going_action, called_action, arguments_action, following_action}
use Rattle.c_parse.proofs.ExpressionSpans.{ended, operated, asked, uncalled, called}
use Rattle.c_parse.proofs.ExpressionJoins.{signed_whole, joined, named}
use Rattle.c_parse.proofs.Spans.{Spans, Through, Goes}
use Rattle.c_parse.proofs.SpanLemmas.{goes_before}

module _ (ts : List Token) (i : ℕ) where
  pub back_name : (kind : Option TokenKind) → kind_at ts i ≡ kind → (Rest : ℕ → Type 0) →
      Goes (name_action kind) kind ts i Rest → Spans symbol.Name ts i Rest
  back_name (Some Name) h Rest g = (h, g)
  back_name _ h Rest g = absurd g

  pub back_left_paren : (kind : Option TokenKind) → kind_at ts i ≡ kind → (Rest : ℕ → Type 0) →
      Goes (left_paren_action kind) kind ts i Rest → Spans symbol.LeftParen ts i Rest
  back_left_paren (Some (Mark mark.LeftParen)) h Rest g = (h, g)
  back_left_paren _ h Rest g = absurd g

  pub back_right_paren : (kind : Option TokenKind) → kind_at ts i ≡ kind → (Rest : ℕ → Type 0) →
      Goes (right_paren_action kind) kind ts i Rest → Spans symbol.RightParen ts i Rest
  back_right_paren (Some (Mark mark.RightParen)) h Rest g = (h, g)
  back_right_paren _ h Rest g = absurd g

  pub back_colon : (kind : Option TokenKind) → kind_at ts i ≡ kind → (Rest : ℕ → Type 0) →
      Goes (colon_action kind) kind ts i Rest → Spans symbol.Colon ts i Rest
  back_colon (Some (Mark mark.Colon)) h Rest g = (h, g)
  back_colon _ h Rest g = absurd g

  pub back_semicolon : (kind : Option TokenKind) → kind_at ts i ≡ kind → (Rest : ℕ → Type 0) →
      Goes (semicolon_action kind) kind ts i Rest → Spans symbol.Semicolon ts i Rest
  back_semicolon (Some (Mark mark.Semicolon)) h Rest g = (h, g)
  back_semicolon _ h Rest g = absurd g

  pub back_while : (kind : Option TokenKind) → kind_at ts i ≡ kind → (Rest : ℕ → Type 0) →
      Goes (while_action kind) kind ts i Rest → Spans symbol.While ts i Rest
  back_while (Some (Word word.While)) h Rest g = (h, g)
  back_while _ h Rest g = absurd g

  -- an operator before an expression
  sign_row : (kind : TokenKind) (op : UnOp) → kind_at ts i ≡ Some kind → unary_of (Some kind) ≡
      Some op → (Rest : ℕ → Type 0) → Spans symbol.Expression ts (i + 1) Rest
      → Spans symbol.Expression ts i Rest
  sign_row kind op h o Rest g =
      (g.0, (signed_whole ts i op (ap unary_of h ∙ o) (i + 1) g.0 g.1.0.0 refl g.1.0.1, g.1.1))

  pub back_expression : (kind : Option TokenKind) → kind_at ts i ≡ kind → (Rest : ℕ → Type 0) →
      Goes (expression_action kind) kind ts i Rest → Spans symbol.Expression ts i Rest
  back_expression (Some Name) h Rest g = (g.0, (named ts i (i + 1) g.0 h refl g.1.0, g.1.1))
  back_expression (Some (Number value)) h Rest g =
      (g.0, (joined ts i (i + 1) g.0 (Lit value) (number ts i value h) g.1.0, g.1.1))
  back_expression (Some (Mark mark.LeftParen)) h Rest g =
      let inside = g.1.0 in
      let end = g.1.1.1 in (
        end.0,
        (
          joined ts i (g.0 + 1) end.0 inside.0 (parens ts i g.0 inside.0 h inside.1 g.1.1.0)
              end.1.0,
          end.1.1,
        ),
      )
  back_expression (Some (Mark mark.Plus)) h Rest g =
      sign_row (Mark mark.Plus) sign.Plus h refl Rest g
  back_expression (Some (Mark mark.Minus)) h Rest g =
      sign_row (Mark mark.Minus) sign.Minus h refl Rest g
  back_expression (Some (Mark mark.Not)) h Rest g = sign_row (Mark mark.Not) sign.Not h refl Rest g
  back_expression _ h Rest g = absurd g

  operator_row : (o : Option Operator) (kind : Option TokenKind) → binary_of kind ≡ o →
      kind_at ts i ≡ kind → (Rest : ℕ → Type 0) → Goes (operator_action o kind) kind ts i Rest
      → Spans symbol.Going ts i Rest
  operator_row (Some o) None q h Rest g = absurd cc
  operator_row (Some (infixed n op)) (Some kind) q h Rest g =
      (g.0, (operated ts i g.0 n op g.1.0.0 (ap binary_of h ∙ q) g.1.0.1, g.1.1))
  operator_row None (Some (Mark mark.Question)) q h Rest g =
      let other = g.1.1.1 in (
        other.0,
        (
          asked ts i g.0 other.0 g.1.0.0 other.1.0.0 h g.1.0.1 g.1.1.0 other.1.0.1,
          other.1.1,
        ),
      )
  operator_row None _ q h Rest g = (i, (ended ts i, g))

  pub back_going : (kind : Option TokenKind) → kind_at ts i ≡ kind → (Rest : ℕ → Type 0) →
      Goes (going_action kind) kind ts i Rest → Spans symbol.Going ts i Rest
  back_going kind h Rest g = operator_row (binary_of kind) kind refl h Rest g

  uncalled_row : (Rest : ℕ → Type 0) → Spans symbol.Going ts i Rest → Spans symbol.Called ts i Rest
  uncalled_row Rest g = (g.0, (uncalled ts i g.0 g.1.0, g.1.1))

  pub back_called : (kind : Option TokenKind) → kind_at ts i ≡ kind → (Rest : ℕ → Type 0) →
      Goes (called_action kind) kind ts i Rest → Spans symbol.Called ts i Rest
  back_called (Some (Mark mark.LeftParen)) h Rest g =
      let rest = g.1.1 in
      (rest.0, (called ts i g.0 rest.0 g.1.0.0 h g.1.0.1 rest.1.0, rest.1.1))
  back_called kind h Rest g = uncalled_row Rest (back_going kind h Rest g)

  -- an expression and the arguments after it
  arguments_row : (kind : Option TokenKind) → kind_at ts i ≡ kind → (Rest : ℕ → Type 0) →
      Goes (before (symbol.Following ∷ []) (expression_action kind)) kind ts i Rest
      → (expression_action kind ≡ skips → ⊥) → Spans symbol.Arguments ts i Rest
  arguments_row kind h Rest g never =
      let e = back_expression kind h (λ j. Through (symbol.Following ∷ []) ts j Rest)
      (goes_before (expression_action kind) (symbol.Following ∷ []) kind ts i Rest never g) in
      let rest = e.1.1 in (
        rest.0,
        (
          (
            e.1.0.0 ∷ rest.1.0.0,
            arguments ts i e.0 rest.0 e.1.0.0 rest.1.0.0 e.1.0.1
                rest.1.0.1,
          ),
          rest.1.1,
        ),
      )

  pub back_arguments : (kind : Option TokenKind) → kind_at ts i ≡ kind → (Rest : ℕ → Type 0) →
      Goes (arguments_action kind) kind ts i Rest → Spans symbol.Arguments ts i Rest
  back_arguments (Some (Mark mark.RightParen)) h Rest g = (i + 1, (([], no_arguments ts i h), g))
  back_arguments kind h Rest g = arguments_row kind h Rest g (λ z. cc)

  pub back_following : (kind : Option TokenKind) → kind_at ts i ≡ kind → (Rest : ℕ → Type 0) →
      Goes (following_action kind) kind ts i Rest → Spans symbol.Following ts i Rest
  back_following (Some (Mark mark.RightParen)) h Rest g = (i + 1, (([], last_argument ts i h), g))
  back_following (Some (Mark mark.Comma)) h Rest g =
      let rest = g.1.1 in (
        rest.0,
        (
          (
            g.1.0.0 ∷ rest.1.0.0,
            next_argument ts i g.0 rest.0 g.1.0.0 rest.1.0.0 h g.1.0.1
                rest.1.0.1,
          ),
          rest.1.1,
        ),
      )
  back_following _ h Rest g = absurd g
