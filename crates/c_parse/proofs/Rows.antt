-- Each row of the table is a rule of the grammar: where what it expects is spanned, the symbol is.
use Rattle.std.proofs.Common.{◌≡◌, ℕ, Option, List}
use Rattle.c_lex.specs.declared.token.Token.{Token}
use Rattle.c_lex.specs.declared.token.TokenKind.{TokenKind}
use Rattle.c_syntax.specs.Grammar.{kind_at}
use Rattle.c_parse.specs.declared.symbol.Symbol.{Symbol}
use Rattle.c_parse.specs.declared.symbol.Symbol.TheVariants as symbol
use Rattle.c_parse.specs.Actions.{action}
use Rattle.c_parse.proofs.Spans.{Spans, Goes}
use Rattle.c_parse.proofs.ExpressionRows.{back_name, back_left_paren, back_right_paren, back_colon, back_semicolon, back_while, back_expression, back_going, back_called, back_arguments, back_following}
use Rattle.c_parse.proofs.StatementRows.{back_items, back_statement, back_else, back_changed, back_declarators, back_declared, back_more_declarators, back_for_start, back_for_test, back_for_change, back_program, back_parameters, back_parameter, back_parameter_name, back_more_parameters, back_body}

pub back : (s : Symbol) (ts : List Token) (i : ℕ) (kind : Option TokenKind) → kind_at ts i ≡ kind →
    (Rest : ℕ → Type 0) → Goes (action s kind) kind ts i Rest → Spans s ts i Rest
back symbol.Name ts i kind h Rest g = back_name ts i kind h Rest g
back symbol.LeftParen ts i kind h Rest g = back_left_paren ts i kind h Rest g
back symbol.RightParen ts i kind h Rest g = back_right_paren ts i kind h Rest g
back symbol.Colon ts i kind h Rest g = back_colon ts i kind h Rest g
back symbol.Semicolon ts i kind h Rest g = back_semicolon ts i kind h Rest g
back symbol.While ts i kind h Rest g = back_while ts i kind h Rest g
back symbol.Expression ts i kind h Rest g = back_expression ts i kind h Rest g
back symbol.Called ts i kind h Rest g = back_called ts i kind h Rest g
back symbol.Going ts i kind h Rest g = back_going ts i kind h Rest g
back symbol.Arguments ts i kind h Rest g = back_arguments ts i kind h Rest g
back symbol.Following ts i kind h Rest g = back_following ts i kind h Rest g
back symbol.Items ts i kind h Rest g = back_items ts i kind h Rest g
back symbol.Statement ts i kind h Rest g = back_statement ts i kind h Rest g
back symbol.Else ts i kind h Rest g = back_else ts i kind h Rest g
back symbol.Changed ts i kind h Rest g = back_changed ts i kind h Rest g
back symbol.Declarators ts i kind h Rest g = back_declarators ts i kind h Rest g
back symbol.Declared ts i kind h Rest g = back_declared ts i kind h Rest g
back symbol.MoreDeclarators ts i kind h Rest g = back_more_declarators ts i kind h Rest g
back symbol.ForStart ts i kind h Rest g = back_for_start ts i kind h Rest g
back symbol.ForTest ts i kind h Rest g = back_for_test ts i kind h Rest g
back symbol.ForChange ts i kind h Rest g = back_for_change ts i kind h Rest g
back symbol.Program ts i kind h Rest g = back_program ts i kind h Rest g
back symbol.Parameters ts i kind h Rest g = back_parameters ts i kind h Rest g
back (symbol.Parameter naming) ts i kind h Rest g = back_parameter naming ts i kind h Rest g
back (symbol.ParameterName naming) ts i kind h Rest g =
    back_parameter_name naming ts i kind h Rest g
back (symbol.MoreParameters naming) ts i kind h Rest g =
    back_more_parameters naming ts i kind h Rest g
back symbol.Body ts i kind h Rest g = back_body ts i kind h Rest g
