-- Where programs are expected, they are expected last.
use Rattle.std.proofs.Common.{◌≡◌, Bool, true, false, Option, Some, None, List, [], ◌∷◌, ◌++◌, if◌then◌else◌, refl}
use Rattle.c_lex.specs.declared.token.TokenKind.{TokenKind}
use Rattle.c_lex.specs.declared.token.TokenKind.TheVariants.{Name, Number, Word, Mark}
use Rattle.c_lex.specs.declared.token.Keyword.TheVariants as word
use Rattle.c_lex.specs.declared.token.Mark.TheVariants as mark
use Rattle.c_syntax.specs.Grammar.{Operator, binary_of}
use Rattle.c_parse.specs.declared.symbol.Symbol.{Symbol}
use Rattle.c_parse.specs.declared.symbol.Symbol.TheVariants as symbol
use Rattle.c_parse.specs.declared.symbol.Naming.{Naming}
use Rattle.c_parse.specs.declared.symbol.Naming.TheVariants.{Full, Partial}
use Rattle.c_parse.specs.Actions.{Action, takes, skips, fails, before, action, name_action, left_paren_action, right_paren_action, colon_action, semicolon_action, while_action, expression_action, operator_action, going_action, called_action, arguments_action, following_action, statement_action, else_action, changed_action, items_action, declarators_action, more_declarators_action, declared_action, for_start_action, for_test_action, for_change_action, body_action, parameters_action, parameter_action, more_parameters_action, parameter_name_action}
use Rattle.c_parse.specs.Recogniser.{stack_by, fed}

abbrev pub is_program : Symbol → Bool
is_program symbol.Program = true
is_program _ = false

-- no programs are expected
abbrev pub is_inner : List Symbol → Bool
is_inner [] = true
is_inner (s ∷ ss) = if is_program s then false else is_inner ss

-- programs are expected last, if at all
abbrev pub is_stack : List Symbol → Bool
is_stack [] = true
is_stack (s ∷ []) = true
is_stack (s ∷ (r ∷ ss)) = if is_program s then false else is_stack (r ∷ ss)

abbrev pub inner_action : Action → Bool
inner_action (takes expected) = is_inner expected
inner_action skips = true
inner_action fails = true

inner_append : (ss more : List Symbol) → is_inner ss ≡ true → is_inner more ≡ true →
    is_inner (ss ++ more) ≡ true
inner_append [] more h g = g
inner_append (s ∷ ss) more h g =
    elim (is_program s) as (λ b. (if b then false else is_inner ss) ≡ true →
    (if b then false else is_inner (ss ++ more)) ≡ true)
    [ true ↦ λ z. z | false ↦ λ z. inner_append ss more z g ] h

inner_head : (s : Symbol) (ss : List Symbol) → is_inner (s ∷ ss) ≡ true → is_program s ≡ false
inner_head s ss h =
    elim (is_program s) as (λ b. (if b then false else is_inner ss) ≡ true → b ≡ false)
    [ true ↦ λ z. absurd cc | false ↦ λ z. refl ] h

inner_tail : (s : Symbol) (ss : List Symbol) → is_inner (s ∷ ss) ≡ true → is_inner ss ≡ true
inner_tail s ss h =
    elim (is_program s) as (λ b. (if b then false else is_inner ss) ≡ true → is_inner ss ≡ true)
    [ true ↦ λ z. absurd cc | false ↦ λ z. z ] h

stack_put : (s : Symbol) (ss : List Symbol) → is_program s ≡ false → is_stack ss ≡ true →
    is_stack (s ∷ ss) ≡ true
stack_put s [] h g = refl
stack_put s (r ∷ ss) h g =
    elim (is_program s) as (λ b. b ≡ false → (if b then false else is_stack (r ∷ ss)) ≡ true)
    [ true ↦ λ z. absurd cc | false ↦ λ z. g ] h

stack_append : (ss more : List Symbol) → is_inner ss ≡ true → is_stack more ≡ true →
    is_stack (ss ++ more) ≡ true
stack_append [] more h g = g
stack_append (s ∷ ss) more h g =
    stack_put s (ss ++ more) (inner_head s ss h) (stack_append ss more (inner_tail s ss h) g)

inner_before : (more : List Symbol) (a : Action) → is_inner more ≡ true → inner_action a ≡ true →
    inner_action (before more a) ≡ true
inner_before more (takes expected) h g = inner_append expected more g h
inner_before more skips h g = refl
inner_before more fails h g = refl

name_inner : (kind : Option TokenKind) → inner_action (name_action kind) ≡ true
name_inner (Some Name) = refl
name_inner _ = refl

left_paren_inner : (kind : Option TokenKind) → inner_action (left_paren_action kind) ≡ true
left_paren_inner (Some (Mark mark.LeftParen)) = refl
left_paren_inner _ = refl

right_paren_inner : (kind : Option TokenKind) → inner_action (right_paren_action kind) ≡ true
right_paren_inner (Some (Mark mark.RightParen)) = refl
right_paren_inner _ = refl

colon_inner : (kind : Option TokenKind) → inner_action (colon_action kind) ≡ true
colon_inner (Some (Mark mark.Colon)) = refl
colon_inner _ = refl

semicolon_inner : (kind : Option TokenKind) → inner_action (semicolon_action kind) ≡ true
semicolon_inner (Some (Mark mark.Semicolon)) = refl
semicolon_inner _ = refl

while_inner : (kind : Option TokenKind) → inner_action (while_action kind) ≡ true
while_inner (Some (Word word.While)) = refl
while_inner _ = refl

expression_inner : (kind : Option TokenKind) → inner_action (expression_action kind) ≡ true
expression_inner (Some Name) = refl
expression_inner (Some (Number value)) = refl
expression_inner (Some (Mark mark.LeftParen)) = refl
expression_inner (Some (Mark mark.Plus)) = refl
expression_inner (Some (Mark mark.Minus)) = refl
expression_inner (Some (Mark mark.Not)) = refl
expression_inner _ = refl

operator_inner : (o : Option Operator) (kind : Option TokenKind) →
    inner_action (operator_action o kind) ≡ true
operator_inner (Some o) kind = refl
operator_inner None (Some (Mark mark.Question)) = refl
operator_inner None _ = refl

going_inner : (kind : Option TokenKind) → inner_action (going_action kind) ≡ true
going_inner kind = operator_inner (binary_of kind) kind

called_inner : (kind : Option TokenKind) → inner_action (called_action kind) ≡ true
called_inner (Some (Mark mark.LeftParen)) = refl
called_inner kind = going_inner kind

arguments_inner : (kind : Option TokenKind) → inner_action (arguments_action kind) ≡ true
arguments_inner (Some (Mark mark.RightParen)) = refl
arguments_inner kind =
    inner_before (symbol.Following ∷ []) (expression_action kind) refl (expression_inner kind)

following_inner : (kind : Option TokenKind) → inner_action (following_action kind) ≡ true
following_inner (Some (Mark mark.RightParen)) = refl
following_inner (Some (Mark mark.Comma)) = refl
following_inner _ = refl

statement_inner : (kind : Option TokenKind) → inner_action (statement_action kind) ≡ true
statement_inner (Some (Mark mark.Semicolon)) = refl
statement_inner (Some (Mark mark.LeftBrace)) = refl
statement_inner (Some Name) = refl
statement_inner (Some (Mark mark.PlusPlus)) = refl
statement_inner (Some (Mark mark.MinusMinus)) = refl
statement_inner (Some (Word word.If)) = refl
statement_inner (Some (Word word.While)) = refl
statement_inner (Some (Word word.Do)) = refl
statement_inner (Some (Word word.For)) = refl
statement_inner (Some (Word word.Break)) = refl
statement_inner (Some (Word word.Continue)) = refl
statement_inner (Some (Word word.Return)) = refl
statement_inner _ = refl

else_inner : (kind : Option TokenKind) → inner_action (else_action kind) ≡ true
else_inner (Some (Word word.Else)) = refl
else_inner _ = refl

changed_inner : (kind : Option TokenKind) → inner_action (changed_action kind) ≡ true
changed_inner (Some (Mark mark.Assign)) = refl
changed_inner (Some (Mark mark.PlusAssign)) = refl
changed_inner (Some (Mark mark.MinusAssign)) = refl
changed_inner (Some (Mark mark.StarAssign)) = refl
changed_inner (Some (Mark mark.SlashAssign)) = refl
changed_inner (Some (Mark mark.PercentAssign)) = refl
changed_inner (Some (Mark mark.PlusPlus)) = refl
changed_inner (Some (Mark mark.MinusMinus)) = refl
changed_inner _ = refl

items_inner : (kind : Option TokenKind) → inner_action (items_action kind) ≡ true
items_inner (Some (Mark mark.RightBrace)) = refl
items_inner (Some (Word word.Int)) = refl
items_inner kind =
    inner_before (symbol.Items ∷ []) (statement_action kind) refl (statement_inner kind)

declarators_inner : (kind : Option TokenKind) → inner_action (declarators_action kind) ≡ true
declarators_inner (Some Name) = refl
declarators_inner _ = refl

more_declarators_inner : (kind : Option TokenKind) → inner_action (more_declarators_action kind) ≡
    true
more_declarators_inner (Some (Mark mark.Comma)) = refl
more_declarators_inner (Some (Mark mark.Semicolon)) = refl
more_declarators_inner _ = refl

declared_inner : (kind : Option TokenKind) → inner_action (declared_action kind) ≡ true
declared_inner (Some (Mark mark.Assign)) = refl
declared_inner kind = more_declarators_inner kind

for_start_inner : (kind : Option TokenKind) → inner_action (for_start_action kind) ≡ true
for_start_inner (Some (Mark mark.Semicolon)) = refl
for_start_inner (Some (Word word.Int)) = refl
for_start_inner (Some Name) = refl
for_start_inner (Some (Mark mark.PlusPlus)) = refl
for_start_inner (Some (Mark mark.MinusMinus)) = refl
for_start_inner _ = refl

for_test_inner : (kind : Option TokenKind) → inner_action (for_test_action kind) ≡ true
for_test_inner (Some (Mark mark.Semicolon)) = refl
for_test_inner kind =
    inner_before (symbol.Semicolon ∷ []) (expression_action kind) refl (expression_inner kind)

for_change_inner : (kind : Option TokenKind) → inner_action (for_change_action kind) ≡ true
for_change_inner (Some (Mark mark.RightParen)) = refl
for_change_inner (Some Name) = refl
for_change_inner (Some (Mark mark.PlusPlus)) = refl
for_change_inner (Some (Mark mark.MinusMinus)) = refl
for_change_inner _ = refl

body_inner : (kind : Option TokenKind) → inner_action (body_action kind) ≡ true
body_inner (Some (Mark mark.LeftBrace)) = refl
body_inner (Some (Mark mark.Semicolon)) = refl
body_inner _ = refl

parameters_inner : (kind : Option TokenKind) → inner_action (parameters_action kind) ≡ true
parameters_inner (Some (Mark mark.RightParen)) = refl
parameters_inner (Some (Word word.Void)) = refl
parameters_inner (Some (Word word.Int)) = refl
parameters_inner _ = refl

parameter_inner : (naming : Naming) (kind : Option TokenKind) →
    inner_action (parameter_action naming kind) ≡ true
parameter_inner naming (Some (Word word.Int)) = refl
parameter_inner naming _ = refl

more_parameters_inner : (naming : Naming) (kind : Option TokenKind) →
    inner_action (more_parameters_action naming kind) ≡ true
more_parameters_inner naming (Some (Mark mark.Comma)) = refl
more_parameters_inner Full (Some (Mark mark.RightParen)) = refl
more_parameters_inner Partial (Some (Mark mark.RightParen)) = refl
more_parameters_inner naming _ = refl

parameter_name_inner : (naming : Naming) (kind : Option TokenKind) →
    inner_action (parameter_name_action naming kind) ≡ true
parameter_name_inner naming (Some Name) = refl
parameter_name_inner naming kind = more_parameters_inner Partial kind

-- no symbol but `Program` expects programs
pub action_inner : (s : Symbol) (kind : Option TokenKind) → is_program s ≡ false →
    inner_action (action s kind) ≡ true
action_inner symbol.Name kind h = name_inner kind
action_inner symbol.LeftParen kind h = left_paren_inner kind
action_inner symbol.RightParen kind h = right_paren_inner kind
action_inner symbol.Colon kind h = colon_inner kind
action_inner symbol.Semicolon kind h = semicolon_inner kind
action_inner symbol.While kind h = while_inner kind
action_inner symbol.Expression kind h = expression_inner kind
action_inner symbol.Called kind h = called_inner kind
action_inner symbol.Going kind h = going_inner kind
action_inner symbol.Arguments kind h = arguments_inner kind
action_inner symbol.Following kind h = following_inner kind
action_inner symbol.Items kind h = items_inner kind
action_inner symbol.Statement kind h = statement_inner kind
action_inner symbol.Else kind h = else_inner kind
action_inner symbol.Changed kind h = changed_inner kind
action_inner symbol.Declarators kind h = declarators_inner kind
action_inner symbol.Declared kind h = declared_inner kind
action_inner symbol.MoreDeclarators kind h = more_declarators_inner kind
action_inner symbol.ForStart kind h = for_start_inner kind
action_inner symbol.ForTest kind h = for_test_inner kind
action_inner symbol.ForChange kind h = for_change_inner kind
action_inner symbol.Program kind h = absurd cc
action_inner symbol.Parameters kind h = parameters_inner kind
action_inner (symbol.Parameter naming) kind h = parameter_inner naming kind
action_inner (symbol.ParameterName naming) kind h = parameter_name_inner naming kind
action_inner (symbol.MoreParameters naming) kind h = more_parameters_inner naming kind
action_inner symbol.Body kind h = body_inner kind

-- what is below the top is a stack, and so is what an action makes of it
pub stack_tail : (s : Symbol) (ss : List Symbol) → is_stack (s ∷ ss) ≡ true → is_stack ss ≡ true
stack_tail s [] h = refl
stack_tail s (r ∷ ss) h =
    elim (is_program s) as (λ b. (if b then false else is_stack (r ∷ ss)) ≡ true →
    is_stack (r ∷ ss) ≡ true) [ true ↦ λ z. absurd cc | false ↦ λ z. z ] h

stack_acted : (a : Action) (ss : List Symbol) (o : Option (List Symbol)) (new : List Symbol) →
    inner_action a ≡ true → is_stack ss ≡ true → (o ≡ Some new → is_stack new ≡ true)
    → stack_by a ss o ≡ Some new → is_stack new ≡ true
stack_acted (takes expected) ss o new h g f e =
    let same : expected ++ ss ≡ new = cc in rw (← same) (stack_append expected ss h g)
stack_acted skips ss o new h g f e = f e
stack_acted fails ss o new h g f e = absurd cc

-- the stack where programs alone are expected
programs_fed : (kind : Option TokenKind) (new : List Symbol) → fed (symbol.Program ∷ []) kind ≡
    Some new → is_stack new ≡ true
unfolding fed
programs_fed None new h = let same : [] ≡ new = cc in rw (← same) refl
programs_fed (Some (Word word.Int)) new h =
    let same : symbol.Name ∷ symbol.LeftParen ∷ symbol.Parameters ∷ symbol.Program ∷ [] ≡ new =
    cc in rw (← same) refl
programs_fed _ new h = absurd cc

-- it stays so
pub stack_fed : (ss : List Symbol) (kind : Option TokenKind) (new : List Symbol) → is_stack ss ≡
    true → fed ss kind ≡ Some new → is_stack new ≡ true
unfolding fed
stack_fed [] None new h e = let same : [] ≡ new = cc in rw (← same) refl
stack_fed [] (Some kind) new h e = absurd cc
stack_fed (symbol.Program ∷ []) kind new h e = programs_fed kind new e
stack_fed (symbol.Program ∷ (r ∷ ss)) kind new h e = absurd cc
stack_fed (s ∷ ss) kind new h e =
    stack_acted (action s kind) ss (fed ss kind) new (action_inner s kind refl) (stack_tail s ss h)
    (λ z. stack_fed ss kind new (stack_tail s ss h) z) e
