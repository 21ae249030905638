-- What the recogniser does with a symbol at a token, and at the end of the list: the table of the
-- grammar by first tokens. An expression is one operand after the other here, since which operator
-- binds tighter has no say in what is spelled.
use Rattle.std.specs.Prelude.{Option, Some, None, List, [], ◌∷◌, ◌++◌}
use Rattle.c_lex.specs.declared.token.TokenKind.{TokenKind}
use Rattle.c_lex.specs.declared.token.TokenKind.TheVariants.{Name, Number, Word, Mark}
use Rattle.c_lex.specs.declared.token.Keyword.TheVariants as word
use Rattle.c_lex.specs.declared.token.Mark.TheVariants as mark
use Rattle.c_syntax.specs.Grammar.{Operator, binary_of}
use Rattle.c_parse.specs.declared.symbol.Symbol.{Symbol}
use Rattle.c_parse.specs.declared.symbol.Symbol.TheVariants as symbol
use Rattle.c_parse.specs.declared.symbol.Naming.{Naming}
use Rattle.c_parse.specs.declared.symbol.Naming.TheVariants.{Full, Partial}

-- the token is taken and these symbols are expected in place of the symbol, the symbol is skipped,
-- or the list is lost
pub data Action : Type 0 where
  takes : List Symbol → Action
  skips : Action
  fails : Action

-- the same with more symbols after what is expected
abbrev pub before : List Symbol → Action → Action
before more (takes expected) = takes (expected ++ more)
before more skips = skips
before more fails = fails

-- one token
abbrev pub name_action : Option TokenKind → Action
name_action (Some Name) = takes []
name_action _ = fails

abbrev pub left_paren_action : Option TokenKind → Action
left_paren_action (Some (Mark mark.LeftParen)) = takes []
left_paren_action _ = fails

abbrev pub right_paren_action : Option TokenKind → Action
right_paren_action (Some (Mark mark.RightParen)) = takes []
right_paren_action _ = fails

abbrev pub colon_action : Option TokenKind → Action
colon_action (Some (Mark mark.Colon)) = takes []
colon_action _ = fails

abbrev pub semicolon_action : Option TokenKind → Action
semicolon_action (Some (Mark mark.Semicolon)) = takes []
semicolon_action _ = fails

abbrev pub while_action : Option TokenKind → Action
while_action (Some (Word word.While)) = takes []
while_action _ = fails

-- an expression
abbrev pub expression_action : Option TokenKind → Action
expression_action (Some Name) = takes (symbol.Called ∷ [])
expression_action (Some (Number value)) = takes (symbol.Going ∷ [])
expression_action (Some (Mark mark.LeftParen)) =
    takes (symbol.Expression ∷ symbol.RightParen ∷ symbol.Going ∷ [])
expression_action (Some (Mark mark.Plus)) = takes (symbol.Expression ∷ [])
expression_action (Some (Mark mark.Minus)) = takes (symbol.Expression ∷ [])
expression_action (Some (Mark mark.Not)) = takes (symbol.Expression ∷ [])
expression_action _ = fails

-- after an operand, by the operator that the token is, if it is one
abbrev pub operator_action : Option Operator → Option TokenKind → Action
operator_action (Some o) kind = takes (symbol.Expression ∷ [])
operator_action None (Some (Mark mark.Question)) =
    takes (symbol.Expression ∷ symbol.Colon ∷ symbol.Expression ∷ [])
operator_action None _ = skips

abbrev pub going_action : Option TokenKind → Action
going_action kind = operator_action (binary_of kind) kind

-- after a name
abbrev pub called_action : Option TokenKind → Action
called_action (Some (Mark mark.LeftParen)) = takes (symbol.Arguments ∷ symbol.Going ∷ [])
called_action kind = going_action kind

-- arguments
abbrev pub arguments_action : Option TokenKind → Action
arguments_action (Some (Mark mark.RightParen)) = takes []
arguments_action kind = before (symbol.Following ∷ []) (expression_action kind)

abbrev pub following_action : Option TokenKind → Action
following_action (Some (Mark mark.RightParen)) = takes []
following_action (Some (Mark mark.Comma)) = takes (symbol.Expression ∷ symbol.Following ∷ [])
following_action _ = fails

-- a statement
abbrev pub statement_action : Option TokenKind → Action
statement_action (Some (Mark mark.Semicolon)) = takes []
statement_action (Some (Mark mark.LeftBrace)) = takes (symbol.Items ∷ [])
statement_action (Some Name) = takes (symbol.Changed ∷ symbol.Semicolon ∷ [])
statement_action (Some (Mark mark.PlusPlus)) = takes (symbol.Name ∷ symbol.Semicolon ∷ [])
statement_action (Some (Mark mark.MinusMinus)) = takes (symbol.Name ∷ symbol.Semicolon ∷ [])
statement_action (Some (Word word.If)) =
    takes (symbol.LeftParen ∷ symbol.Expression ∷ symbol.RightParen ∷ symbol.Statement ∷
    symbol.Else ∷ [])
statement_action (Some (Word word.While)) =
    takes (symbol.LeftParen ∷ symbol.Expression ∷ symbol.RightParen ∷ symbol.Statement ∷ [])
statement_action (Some (Word word.Do)) =
    takes (symbol.Statement ∷ symbol.While ∷ symbol.LeftParen ∷ symbol.Expression ∷
    symbol.RightParen ∷ symbol.Semicolon ∷ [])
statement_action (Some (Word word.For)) =
    takes (symbol.LeftParen ∷ symbol.ForStart ∷ symbol.ForTest ∷ symbol.ForChange ∷
    symbol.Statement ∷ [])
statement_action (Some (Word word.Break)) = takes (symbol.Semicolon ∷ [])
statement_action (Some (Word word.Continue)) = takes (symbol.Semicolon ∷ [])
statement_action (Some (Word word.Return)) = takes (symbol.Expression ∷ symbol.Semicolon ∷ [])
statement_action _ = fails

abbrev pub else_action : Option TokenKind → Action
else_action (Some (Word word.Else)) = takes (symbol.Statement ∷ [])
else_action _ = skips

-- after the name that a change begins with
abbrev pub changed_action : Option TokenKind → Action
changed_action (Some (Mark mark.Assign)) = takes (symbol.Expression ∷ [])
changed_action (Some (Mark mark.PlusAssign)) = takes (symbol.Expression ∷ [])
changed_action (Some (Mark mark.MinusAssign)) = takes (symbol.Expression ∷ [])
changed_action (Some (Mark mark.StarAssign)) = takes (symbol.Expression ∷ [])
changed_action (Some (Mark mark.SlashAssign)) = takes (symbol.Expression ∷ [])
changed_action (Some (Mark mark.PercentAssign)) = takes (symbol.Expression ∷ [])
changed_action (Some (Mark mark.PlusPlus)) = takes []
changed_action (Some (Mark mark.MinusMinus)) = takes []
changed_action _ = fails

-- the items of a block
abbrev pub items_action : Option TokenKind → Action
items_action (Some (Mark mark.RightBrace)) = takes []
items_action (Some (Word word.Int)) = takes (symbol.Declarators ∷ symbol.Items ∷ [])
items_action kind = before (symbol.Items ∷ []) (statement_action kind)

-- declarations of names
abbrev pub declarators_action : Option TokenKind → Action
declarators_action (Some Name) = takes (symbol.Declared ∷ [])
declarators_action _ = fails

abbrev pub more_declarators_action : Option TokenKind → Action
more_declarators_action (Some (Mark mark.Comma)) = takes (symbol.Declarators ∷ [])
more_declarators_action (Some (Mark mark.Semicolon)) = takes []
more_declarators_action _ = fails

abbrev pub declared_action : Option TokenKind → Action
declared_action (Some (Mark mark.Assign)) = takes (symbol.Expression ∷ symbol.MoreDeclarators ∷ [])
declared_action kind = more_declarators_action kind

-- the head of a `for`
abbrev pub for_start_action : Option TokenKind → Action
for_start_action (Some (Mark mark.Semicolon)) = takes []
for_start_action (Some (Word word.Int)) = takes (symbol.Declarators ∷ [])
for_start_action (Some Name) = takes (symbol.Changed ∷ symbol.Semicolon ∷ [])
for_start_action (Some (Mark mark.PlusPlus)) = takes (symbol.Name ∷ symbol.Semicolon ∷ [])
for_start_action (Some (Mark mark.MinusMinus)) = takes (symbol.Name ∷ symbol.Semicolon ∷ [])
for_start_action _ = fails

abbrev pub for_test_action : Option TokenKind → Action
for_test_action (Some (Mark mark.Semicolon)) = takes []
for_test_action kind = before (symbol.Semicolon ∷ []) (expression_action kind)

abbrev pub for_change_action : Option TokenKind → Action
for_change_action (Some (Mark mark.RightParen)) = takes []
for_change_action (Some Name) = takes (symbol.Changed ∷ symbol.RightParen ∷ [])
for_change_action (Some (Mark mark.PlusPlus)) = takes (symbol.Name ∷ symbol.RightParen ∷ [])
for_change_action (Some (Mark mark.MinusMinus)) = takes (symbol.Name ∷ symbol.RightParen ∷ [])
for_change_action _ = fails

-- programs
abbrev pub program_action : Option TokenKind → Action
program_action (Some (Word word.Int)) =
    takes (symbol.Name ∷ symbol.LeftParen ∷ symbol.Parameters ∷ symbol.Program ∷ [])
program_action None = skips
program_action _ = fails

-- what may come after the closing parenthesis of a heading
abbrev pub closed : Naming → Symbol
closed Full = symbol.Body
closed Partial = symbol.Semicolon

abbrev pub body_action : Option TokenKind → Action
body_action (Some (Mark mark.LeftBrace)) = takes (symbol.Items ∷ [])
body_action (Some (Mark mark.Semicolon)) = takes []
body_action _ = fails

abbrev pub parameters_action : Option TokenKind → Action
parameters_action (Some (Mark mark.RightParen)) = takes (symbol.Body ∷ [])
parameters_action (Some (Word word.Void)) = takes (symbol.RightParen ∷ symbol.Body ∷ [])
parameters_action (Some (Word word.Int)) = takes (symbol.ParameterName Full ∷ [])
parameters_action _ = fails

abbrev pub parameter_action : Naming → Option TokenKind → Action
parameter_action naming (Some (Word word.Int)) = takes (symbol.ParameterName naming ∷ [])
parameter_action naming _ = fails

abbrev pub more_parameters_action : Naming → Option TokenKind → Action
more_parameters_action naming (Some (Mark mark.Comma)) = takes (symbol.Parameter naming ∷ [])
more_parameters_action naming (Some (Mark mark.RightParen)) = takes (closed naming ∷ [])
more_parameters_action naming _ = fails

abbrev pub parameter_name_action : Naming → Option TokenKind → Action
parameter_name_action naming (Some Name) = takes (symbol.MoreParameters naming ∷ [])
parameter_name_action naming kind = more_parameters_action Partial kind

-- the whole table
abbrev pub action : Symbol → Option TokenKind → Action
action symbol.Name kind = name_action kind
action symbol.LeftParen kind = left_paren_action kind
action symbol.RightParen kind = right_paren_action kind
action symbol.Colon kind = colon_action kind
action symbol.Semicolon kind = semicolon_action kind
action symbol.While kind = while_action kind
action symbol.Expression kind = expression_action kind
action symbol.Called kind = called_action kind
action symbol.Going kind = going_action kind
action symbol.Arguments kind = arguments_action kind
action symbol.Following kind = following_action kind
action symbol.Items kind = items_action kind
action symbol.Statement kind = statement_action kind
action symbol.Else kind = else_action kind
action symbol.Changed kind = changed_action kind
action symbol.Declarators kind = declarators_action kind
action symbol.Declared kind = declared_action kind
action symbol.MoreDeclarators kind = more_declarators_action kind
action symbol.ForStart kind = for_start_action kind
action symbol.ForTest kind = for_test_action kind
action symbol.ForChange kind = for_change_action kind
action symbol.Program kind = program_action kind
action symbol.Parameters kind = parameters_action kind
action (symbol.Parameter naming) kind = parameter_action naming kind
action (symbol.ParameterName naming) kind = parameter_name_action naming kind
action (symbol.MoreParameters naming) kind = more_parameters_action naming kind
action symbol.Body kind = body_action kind
