-- What each symbol spans, over the grammar: from a place of a list of tokens to a place where
-- something else holds.
use Rattle.std.proofs.Common.{◌≡◌, ℕ, ◌+◌, Option, Some, None, List, [], ◌∷◌}
use Rattle.c_lex.specs.declared.token.Token.{Token}
use Rattle.c_lex.specs.declared.token.TokenKind.{TokenKind}
use Rattle.c_lex.specs.declared.token.TokenKind.TheVariants.{Name, Word, Mark}
use Rattle.c_lex.specs.declared.token.Keyword.TheVariants as word
use Rattle.c_lex.specs.declared.token.Mark.TheVariants as mark
use Rattle.c_ast.specs.declared.expr.Expr.{Expr}
use Rattle.c_ast.specs.declared.stmt.Stmt.{Stmt}
use Rattle.c_syntax.specs.declared.tree.External.{External}
use Rattle.c_syntax.specs.Grammar.{kind_at, Expression, Arguments, Following}
use Rattle.c_syntax.specs.Statements.{InitDeclarators, ForInit, ForTest, ForStep, Statement, BlockItems}
use Rattle.c_syntax.specs.Programs.{Externals}
use Rattle.c_parse.specs.declared.symbol.Symbol.{Symbol}
use Rattle.c_parse.specs.declared.symbol.Symbol.TheVariants as symbol
use Rattle.c_parse.specs.Actions.{Action, takes, skips, fails}
use Rattle.c_parse.proofs.ExpressionSpans.{AfterOperand, AfterName}
use Rattle.c_parse.proofs.StatementSpans.{Alternative, AfterChanged, MoreNames, AfterDeclared, AfterHeading, AfterParameter, AfterInt, AfterOpening}

-- the mark is at a place, and the rest holds after it
abbrev pub Marked : TokenKind → List Token → ℕ → (ℕ → Type 0) → Type 0
Marked kind ts i Rest = (kind_at ts i ≡ Some kind) × Rest (i + 1)

-- a phrase is at a place, and the rest holds at its end
abbrev pub Phrase : (ℕ → Type 0) → (ℕ → Type 0) → Type 0
Phrase Ends Rest = (j : ℕ) × (Ends j × Rest j)

-- the symbol spans the tokens from a place on to one where the rest holds
abbrev pub Spans : Symbol → List Token → ℕ → (ℕ → Type 0) → Type 0
Spans symbol.Name ts i Rest = Marked Name ts i Rest
Spans symbol.LeftParen ts i Rest = Marked (Mark mark.LeftParen) ts i Rest
Spans symbol.RightParen ts i Rest = Marked (Mark mark.RightParen) ts i Rest
Spans symbol.Colon ts i Rest = Marked (Mark mark.Colon) ts i Rest
Spans symbol.Semicolon ts i Rest = Marked (Mark mark.Semicolon) ts i Rest
Spans symbol.While ts i Rest = Marked (Word word.While) ts i Rest
Spans symbol.Expression ts i Rest = Phrase (λ j. (e : Expr) × Expression ts i j e) Rest
Spans symbol.Called ts i Rest = Phrase (AfterName ts i) Rest
Spans symbol.Going ts i Rest = Phrase (AfterOperand ts i) Rest
Spans symbol.Arguments ts i Rest = Phrase (λ j. (es : List Expr) × Arguments ts i j es) Rest
Spans symbol.Following ts i Rest = Phrase (λ j. (es : List Expr) × Following ts i j es) Rest
Spans symbol.Items ts i Rest = Phrase (λ j. (ss : List Stmt) × BlockItems ts i j ss) Rest
Spans symbol.Statement ts i Rest = Phrase (λ j. (s : Stmt) × Statement ts i j s) Rest
Spans symbol.Else ts i Rest = Phrase (Alternative ts i) Rest
Spans symbol.Changed ts i Rest = Phrase (AfterChanged ts i) Rest
Spans symbol.Declarators ts i Rest = Phrase (λ j. (ss : List Stmt) × InitDeclarators ts i j ss) Rest
Spans symbol.Declared ts i Rest = Phrase (AfterDeclared ts i) Rest
Spans symbol.MoreDeclarators ts i Rest = Phrase (MoreNames ts i) Rest
Spans symbol.ForStart ts i Rest = Phrase (λ j. (ss : List Stmt) × ForInit ts i j ss) Rest
Spans symbol.ForTest ts i Rest = Phrase (λ j. (o : Option Expr) × ForTest ts i j o) Rest
Spans symbol.ForChange ts i Rest = Phrase (λ j. (o : Option Stmt) × ForStep ts i j o) Rest
Spans symbol.Program ts i Rest = Phrase (λ j. (xs : List External) × Externals ts i j xs) Rest
Spans symbol.Parameters ts i Rest = Phrase (AfterOpening ts i) Rest
Spans (symbol.Parameter naming) ts i Rest =
    (kind_at ts i ≡ Some (Word word.Int)) × Phrase (AfterInt naming ts (i + 1)) Rest
Spans (symbol.ParameterName naming) ts i Rest = Phrase (AfterInt naming ts i) Rest
Spans (symbol.MoreParameters naming) ts i Rest = Phrase (AfterParameter naming ts i) Rest
Spans symbol.Body ts i Rest = Phrase (AfterHeading ts i) Rest

-- the same of several symbols, one after the other
abbrev pub Through : List Symbol → List Token → ℕ → (ℕ → Type 0) → Type 0
Through [] ts i Rest = Rest i
Through (s ∷ ss) ts i Rest = Spans s ts i (λ j. Through ss ts j Rest)

-- the place after a token, or after none
abbrev pub after : Option TokenKind → ℕ → ℕ
after None i = i
after (Some kind) i = i + 1

-- what an action expects at a token is spanned
abbrev pub Goes : Action → Option TokenKind → List Token → ℕ → (ℕ → Type 0) → Type 0
Goes (takes expected) kind ts i Rest = Through expected ts (after kind i) Rest
Goes skips kind ts i Rest = Rest i
Goes fails kind ts i Rest = ⊥
