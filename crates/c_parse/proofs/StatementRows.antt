-- What an action of a symbol of statements and programs expects is what the symbol spans: each row
-- of the tables is a form of the grammar.
use Rattle.std.proofs.Common.{◌≡◌, inl, inr, ℕ, ◌+◌, Option, Some, None, List, [], ◌∷◌, ◌++◌, length, refl, sym, ◌∙◌, ap, arith}
use Rattle.std.specs.Option.{option_map}
use Rattle.rx_plain.proofs.Naturals.{two_more}
use Rattle.c_lex.specs.declared.token.Token.{Token}
use Rattle.c_lex.specs.declared.token.TokenKind.{TokenKind}
use Rattle.c_lex.specs.declared.token.TokenKind.TheVariants.{Name, Word, Mark}
use Rattle.c_lex.specs.declared.token.Keyword.TheVariants as word
use Rattle.c_lex.specs.declared.token.Mark.{Mark as TheMark}
use Rattle.c_lex.specs.declared.token.Mark.TheVariants as mark
use Rattle.c_ast.specs.declared.expr.BinOp.{BinOp}
use Rattle.c_ast.specs.declared.expr.BinOp.TheVariants as binary
use Rattle.c_ast.specs.declared.expr.Expr.{Expr}
use Rattle.c_ast.specs.declared.stmt.Stmt.{Stmt}
use Rattle.c_ast.specs.declared.stmt.Stmt.TheVariants.{Empty, Declare, Assign, If, While, DoWhile, For, Break, Continue, Return, Block}
use Rattle.c_syntax.specs.Grammar.{kind_at, Expression, ended, Test}
use Rattle.c_syntax.specs.Statements.{changing_of, step, unit, updated, Change, by_value, by_update, by_step_after, by_step_before, IsParted, InitDeclarator, bare, valued, InitDeclarators, last_name, next_name, no_start, start_change, start_names, no_test, a_test, no_change, a_change, Statement, nothing, block, changes, if_alone, if_else, while_loop, do_loop, for_loop, breaks, continues, returns, statement, declaration, closed, item}
use Rattle.c_syntax.specs.declared.tree.External.{External}
use Rattle.c_syntax.specs.declared.tree.External.TheVariants.{Defined, Declared}
use Rattle.c_syntax.specs.Programs.{IsHeading, Parameter, named, nameless, Listed, last_parameter, next_parameter, Parameters, unsaid, void, listed, all_names, names_of, ExternalDeclaration, function, prototype, finished, followed}
use Rattle.c_parse.specs.declared.symbol.Symbol.TheVariants as symbol
use Rattle.c_parse.specs.declared.symbol.Naming.{Naming}
use Rattle.c_parse.specs.declared.symbol.Naming.TheVariants.{Full, Partial}
use Rattle.c_parse.specs.Actions.{else_action, changed_action, statement_action, items_action, declarators_action, more_declarators_action, declared_action, for_start_action, for_test_action, for_change_action, body_action, program_action, parameters_action, parameter_action, more_parameters_action, parameter_name_action}
use Rattle.c_parse.proofs.ExpressionRows.{back_expression}
use Rattle.c_parse.proofs.Spans.{Spans, Goes}
use Rattle.c_parse.proofs.StatementSpans.{Alternative, without_else, with_else, AfterChanged, assigns, updates, steps, MoreNames, no_more_names, more_names, AfterDeclared, no_value, a_value, AfterHeading, a_body, no_body, AfterParameters, AfterParameter, no_more_parameters, more_parameters, AfterInt, a_name, no_name, AfterOpening, of_function, of_prototype}

pub three_on : (i : ℕ) → i + 1 + 1 + 1 ≡ i + 3
three_on i = omega arith

-- a change that begins with a name, from what comes after the name
pub change_of_name : (m : TheMark) (ts : List Token) (i j : ℕ) → kind_at ts i ≡ Some Name →
    AfterChanged ts (i + 1) j → kind_at ts j ≡ Some (Mark m) → (s : Stmt) × Change m ts i (j + 1) s
change_of_name m ts i j h (assigns _ _ _ e a x) q =
    let there : Expression ts (i + 2) j e = rw (sym (two_more i)) x in
    (Assign i e, by_value m ts i (j + 1) e h a (ended m ts (i + 2) j e there q))
change_of_name m ts i j h (updates _ _ _ op e a x) q =
    let there : Expression ts (i + 2) j e = rw (sym (two_more i)) x in
    (updated i op e, by_update m ts i (j + 1) op e h a (ended m ts (i + 2) j e there q))
change_of_name m ts i j h (steps _ _ op a) q =
    let there : kind_at ts (i + 2) ≡ Some (Mark m) = rw (sym (two_more i)) q in
    let whole : Change m ts i (i + 3) (updated i op unit) = by_step_after m ts i op h a there in
    (updated i op unit, rw (three_on i) whole)

-- a step before its name
pub change_of_step : (m : TheMark) (ts : List Token) (i : ℕ) (op : BinOp) →
    changing_of (kind_at ts i) ≡ Some (step op) → kind_at ts (i + 1) ≡ Some Name →
    kind_at ts (i + 1 + 1) ≡ Some (Mark m)
    → (s : Stmt) × Change m ts i (i + 1 + 1 + 1) s
change_of_step m ts i op a h q =
    let there : kind_at ts (i + 2) ≡ Some (Mark m) = rw (sym (two_more i)) q in
    let whole : Change m ts i (i + 3) (updated (i + 1) op unit) =
    by_step_before m ts i op a h there in
    (updated (i + 1) op unit, rw (three_on i) whole)

pub back_changed : (ts : List Token) (i : ℕ) (kind : Option TokenKind) → kind_at ts i ≡ kind →
    (Rest : ℕ → Type 0) → Goes (changed_action kind) kind ts i Rest → Spans symbol.Changed ts i Rest
back_changed ts i (Some (Mark mark.Assign)) h Rest g =
    (g.0, (assigns ts i g.0 g.1.0.0 h g.1.0.1, g.1.1))
back_changed ts i (Some (Mark mark.PlusAssign)) h Rest g =
    (g.0, (updates ts i g.0 binary.Add g.1.0.0 (ap changing_of h) g.1.0.1, g.1.1))
back_changed ts i (Some (Mark mark.MinusAssign)) h Rest g =
    (g.0, (updates ts i g.0 binary.Sub g.1.0.0 (ap changing_of h) g.1.0.1, g.1.1))
back_changed ts i (Some (Mark mark.StarAssign)) h Rest g =
    (g.0, (updates ts i g.0 binary.Mul g.1.0.0 (ap changing_of h) g.1.0.1, g.1.1))
back_changed ts i (Some (Mark mark.SlashAssign)) h Rest g =
    (g.0, (updates ts i g.0 binary.Div g.1.0.0 (ap changing_of h) g.1.0.1, g.1.1))
back_changed ts i (Some (Mark mark.PercentAssign)) h Rest g =
    (g.0, (updates ts i g.0 binary.Rem g.1.0.0 (ap changing_of h) g.1.0.1, g.1.1))
back_changed ts i (Some (Mark mark.PlusPlus)) h Rest g =
    (i + 1, (steps ts i binary.Add (ap changing_of h), g))
back_changed ts i (Some (Mark mark.MinusMinus)) h Rest g =
    (i + 1, (steps ts i binary.Sub (ap changing_of h), g))
back_changed ts i kind h Rest g = absurd g

pub back_else : (ts : List Token) (i : ℕ) (kind : Option TokenKind) → kind_at ts i ≡ kind →
    (Rest : ℕ → Type 0) → Goes (else_action kind) kind ts i Rest → Spans symbol.Else ts i Rest
back_else ts i (Some (Word word.Else)) h Rest g =
    (g.0, (with_else ts i g.0 g.1.0.0 h g.1.0.1, g.1.1))
back_else ts i kind h Rest g = (
  i,
  (
    without_else ts i (λ e. let clash : kind ≡ Some (Word word.Else) = sym h ∙ e in absurd cc),
    g,
  ),
)

-- an expression in parentheses, from the marks around it
test_of : (ts : List Token) (i j : ℕ) (e : Expr) → kind_at ts i ≡ Some (Mark mark.LeftParen) →
    Expression ts (i + 1) j e → kind_at ts j ≡ Some (Mark mark.RightParen) → Test ts i (j + 1) e
test_of ts i j e a x b = (a, ended mark.RightParen ts (i + 1) j e x b)

-- an `if`, from what comes after its statement
if_of : (ts : List Token) (i j k l : ℕ) (e : Expr) (s : Stmt) → kind_at ts i ≡ Some (Word word.If) →
    Test ts (i + 1) j e → Statement ts j k s → Alternative ts k l → (t : Stmt) × Statement ts i l t
if_of ts i j k l e s h c b (without_else _ _ alone) =
    (If e s None, if_alone ts i j k e s h c b alone)
if_of ts i j k l e s h c b (with_else _ _ _ t other d) =
    (If e s (Some t), if_else ts i j k l e s t h c b other d)

-- one keyword and a semicolon
jump_end : (ts : List Token) (i : ℕ) (s : Stmt) → Statement ts i (i + 2) s →
    Statement ts i (i + 1 + 1) s
jump_end ts i s x = rw (two_more i) x

pub back_statement : (ts : List Token) (i : ℕ) (kind : Option TokenKind) → kind_at ts i ≡ kind →
    (Rest : ℕ → Type 0) → Goes (statement_action kind) kind ts i Rest →
    Spans symbol.Statement ts i Rest
back_statement ts i (Some (Mark mark.Semicolon)) h Rest g = (i + 1, ((Empty, nothing ts i h), g))
back_statement ts i (Some (Mark mark.LeftBrace)) h Rest g =
    (g.0, ((Block g.1.0.0, block ts i g.0 g.1.0.0 h g.1.0.1), g.1.1))
back_statement ts i (Some Name) h Rest g =
    let c = change_of_name mark.Semicolon ts i g.0 h g.1.0 g.1.1.0 in
    (g.0 + 1, ((c.0, changes ts i (g.0 + 1) c.0 c.1), g.1.1.1))
back_statement ts i (Some (Mark mark.PlusPlus)) h Rest g =
    let c = change_of_step mark.Semicolon ts i binary.Add (ap changing_of h) g.0 g.1.0 in
    (i + 1 + 1 + 1, ((c.0, changes ts i (i + 1 + 1 + 1) c.0 c.1), g.1.1))
back_statement ts i (Some (Mark mark.MinusMinus)) h Rest g =
    let c = change_of_step mark.Semicolon ts i binary.Sub (ap changing_of h) g.0 g.1.0 in
    (i + 1 + 1 + 1, ((c.0, changes ts i (i + 1 + 1 + 1) c.0 c.1), g.1.1))
back_statement ts i (Some (Word word.If)) h Rest (a, (j, ((e, x), (b, (k, ((s, y), (l, (z, r))))))))
    =
    let whole = if_of ts i (j + 1) k l e s h (test_of ts (i + 1) j e a x b) y z in (l, (whole, r))
back_statement ts i (Some (Word word.While)) h Rest (a, (j, ((e, x), (b, (k, ((s, y), r)))))) =
    (k, ((While e s, while_loop ts i (j + 1) k e s h (test_of ts (i + 1) j e a x b) y), r))
back_statement ts i (Some (Word word.Do)) h Rest (j, ((s, y), (w, (a, (k, ((e, x), (b, (q, r))))))))
    = (
      k + 1 + 1,
      (
        (DoWhile s e, do_loop ts i j (k + 1) s e h y w (test_of ts (j + 1) k e a x b) q),
        r,
      ),
    )
back_statement ts i (Some (Word word.For)) h Rest
    (a, (j, ((first, x), (k, ((test, y), (l, ((change, z), (m, ((s, b), r))))))))) = (
      m,
      (
        (
          For first test change s,
          for_loop ts i l m
              (record { first = first; test = test; change = change }) s h
              (record { opens = a; middle = j; starts = x; last = k; continues = y; advances = z })
              b,
        ),
        r,
      ),
    )
back_statement ts i (Some (Word word.Break)) h Rest g =
    (i + 1 + 1, ((Break i, jump_end ts i (Break i) (breaks ts i h g.0)), g.1))
back_statement ts i (Some (Word word.Continue)) h Rest g =
    (i + 1 + 1, ((Continue i, jump_end ts i (Continue i) (continues ts i h g.0)), g.1))
back_statement ts i (Some (Word word.Return)) h Rest (j, ((e, x), (q, r))) =
    (j + 1, ((Return e, returns ts i (j + 1) e h (ended mark.Semicolon ts (i + 1) j e x q)), r))
back_statement ts i kind h Rest g = absurd g

-- the items of a block, the first a statement
items_from : (ts : List Token) (i : ℕ) (Rest : ℕ → Type 0) →
    Spans symbol.Statement ts i (λ j. Spans symbol.Items ts j Rest) → Spans symbol.Items ts i Rest
items_from ts i Rest (j, ((s, x), (k, ((ss, y), r)))) =
    (k, (((s ∷ []) ++ ss, item ts i j k (s ∷ []) ss (statement ts i j s x) y), r))

pub back_items : (ts : List Token) (i : ℕ) (kind : Option TokenKind) → kind_at ts i ≡ kind →
    (Rest : ℕ → Type 0) → Goes (items_action kind) kind ts i Rest → Spans symbol.Items ts i Rest
back_items ts i (Some (Mark mark.RightBrace)) h Rest g = (i + 1, (([], closed ts i h), g))
back_items ts i (Some (Word word.Int)) h Rest (j, ((xs, x), (k, ((ss, y), r)))) =
    (k, ((xs ++ ss, item ts i j k xs ss (declaration ts i j xs (h, x)) y), r))
back_items ts i kind h Rest g =
    items_from ts i Rest (back_statement ts i kind h (λ j. Spans symbol.Items ts j Rest) g)

-- declarations of names, the first before a comma or a semicolon
names_from : (ts : List Token) (i j k : ℕ) (s : Stmt) → (IsParted ts j → InitDeclarator ts i j s) →
    MoreNames ts j k → (ss : List Stmt) × InitDeclarators ts i k ss
names_from ts i j k s one (no_more_names _ _ h) = (s ∷ [], last_name ts i j s (one (inr h)) h)
names_from ts i j k s one (more_names _ _ _ ss h ds) =
    (s ∷ ss, next_name ts i j k s ss (one (inl h)) h ds)

-- declarations of names, from what comes after the first name
pub names_after : (ts : List Token) (i k : ℕ) → kind_at ts i ≡ Some Name →
    AfterDeclared ts (i + 1) k → (ss : List Stmt) × InitDeclarators ts i k ss
names_after ts i k h (no_value _ _ _ m) = names_from ts i (i + 1) k (Declare i None) (bare ts i h) m
names_after ts i k h (a_value _ _ j _ e a x m) =
    let there : Expression ts (i + 2) j e = rw (sym (two_more i)) x in
    names_from ts i j k (Declare i (Some e)) (valued ts i j e h a there) m

pub back_declarators : (ts : List Token) (i : ℕ) (kind : Option TokenKind) → kind_at ts i ≡ kind →
    (Rest : ℕ → Type 0) → Goes (declarators_action kind) kind ts i Rest →
    Spans symbol.Declarators ts i Rest
back_declarators ts i (Some Name) h Rest g = (g.0, (names_after ts i g.0 h g.1.0, g.1.1))
back_declarators ts i kind h Rest g = absurd g

pub back_more_declarators : (ts : List Token) (i : ℕ) (kind : Option TokenKind) → kind_at ts i ≡
    kind → (Rest : ℕ → Type 0) → Goes (more_declarators_action kind) kind ts i Rest →
    Spans symbol.MoreDeclarators ts i Rest
back_more_declarators ts i (Some (Mark mark.Comma)) h Rest g =
    (g.0, (more_names ts i g.0 g.1.0.0 h g.1.0.1, g.1.1))
back_more_declarators ts i (Some (Mark mark.Semicolon)) h Rest g =
    (i + 1, (no_more_names ts i h, g))
back_more_declarators ts i kind h Rest g = absurd g

pub back_declared : (ts : List Token) (i : ℕ) (kind : Option TokenKind) → kind_at ts i ≡ kind →
    (Rest : ℕ → Type 0) → Goes (declared_action kind) kind ts i Rest →
    Spans symbol.Declared ts i Rest
back_declared ts i (Some (Mark mark.Assign)) h Rest (j, ((e, x), (k, (m, r)))) =
    (k, (a_value ts i j k e h x m, r))
back_declared ts i kind h Rest g =
    let d = back_more_declarators ts i kind h Rest g in (d.0, (no_value ts i d.0 d.1.0, d.1.1))

pub back_for_start : (ts : List Token) (i : ℕ) (kind : Option TokenKind) → kind_at ts i ≡ kind →
    (Rest : ℕ → Type 0) → Goes (for_start_action kind) kind ts i Rest →
    Spans symbol.ForStart ts i Rest
back_for_start ts i (Some (Mark mark.Semicolon)) h Rest g = (i + 1, (([], no_start ts i h), g))
back_for_start ts i (Some (Word word.Int)) h Rest (j, ((ss, x), r)) =
    (j, ((ss, start_names ts i j ss (h, x)), r))
back_for_start ts i (Some Name) h Rest g =
    let c = change_of_name mark.Semicolon ts i g.0 h g.1.0 g.1.1.0 in
    (g.0 + 1, ((c.0 ∷ [], start_change ts i (g.0 + 1) c.0 c.1), g.1.1.1))
back_for_start ts i (Some (Mark mark.PlusPlus)) h Rest g =
    let c = change_of_step mark.Semicolon ts i binary.Add (ap changing_of h) g.0 g.1.0 in
    (i + 1 + 1 + 1, ((c.0 ∷ [], start_change ts i (i + 1 + 1 + 1) c.0 c.1), g.1.1))
back_for_start ts i (Some (Mark mark.MinusMinus)) h Rest g =
    let c = change_of_step mark.Semicolon ts i binary.Sub (ap changing_of h) g.0 g.1.0 in
    (i + 1 + 1 + 1, ((c.0 ∷ [], start_change ts i (i + 1 + 1 + 1) c.0 c.1), g.1.1))
back_for_start ts i kind h Rest g = absurd g

-- the test of a `for`, from the expression and the semicolon
test_from : (ts : List Token) (i : ℕ) (Rest : ℕ → Type 0) →
    Spans symbol.Expression ts i (λ j. Spans symbol.Semicolon ts j Rest) →
    Spans symbol.ForTest ts i Rest
test_from ts i Rest (j, ((e, x), (q, r))) =
    (j + 1, ((Some e, a_test ts i (j + 1) e (ended mark.Semicolon ts i j e x q)), r))

pub back_for_test : (ts : List Token) (i : ℕ) (kind : Option TokenKind) → kind_at ts i ≡ kind →
    (Rest : ℕ → Type 0) → Goes (for_test_action kind) kind ts i Rest →
    Spans symbol.ForTest ts i Rest
back_for_test ts i (Some (Mark mark.Semicolon)) h Rest g = (i + 1, ((None, no_test ts i h), g))
back_for_test ts i kind h Rest g =
    test_from ts i Rest (back_expression ts i kind h (λ j. Spans symbol.Semicolon ts j Rest) g)

pub back_for_change : (ts : List Token) (i : ℕ) (kind : Option TokenKind) → kind_at ts i ≡ kind →
    (Rest : ℕ → Type 0) → Goes (for_change_action kind) kind ts i Rest →
    Spans symbol.ForChange ts i Rest
back_for_change ts i (Some (Mark mark.RightParen)) h Rest g = (i + 1, ((None, no_change ts i h), g))
back_for_change ts i (Some Name) h Rest g =
    let c = change_of_name mark.RightParen ts i g.0 h g.1.0 g.1.1.0 in
    (g.0 + 1, ((Some c.0, a_change ts i (g.0 + 1) c.0 c.1), g.1.1.1))
back_for_change ts i (Some (Mark mark.PlusPlus)) h Rest g =
    let c = change_of_step mark.RightParen ts i binary.Add (ap changing_of h) g.0 g.1.0 in
    (i + 1 + 1 + 1, ((Some c.0, a_change ts i (i + 1 + 1 + 1) c.0 c.1), g.1.1))
back_for_change ts i (Some (Mark mark.MinusMinus)) h Rest g =
    let c = change_of_step mark.RightParen ts i binary.Sub (ap changing_of h) g.0 g.1.0 in
    (i + 1 + 1 + 1, ((Some c.0, a_change ts i (i + 1 + 1 + 1) c.0 c.1), g.1.1))
back_for_change ts i kind h Rest g = absurd g

-- the block of a function or the semicolon of a prototype
pub back_body : (ts : List Token) (i : ℕ) (kind : Option TokenKind) → kind_at ts i ≡ kind →
    (Rest : ℕ → Type 0) → Goes (body_action kind) kind ts i Rest → Spans symbol.Body ts i Rest
back_body ts i (Some (Mark mark.LeftBrace)) h Rest (j, ((ss, x), r)) =
    (j, (a_body ts i j ss (h, x), r))
back_body ts i (Some (Mark mark.Semicolon)) h Rest g = (i + 1, (no_body ts i h, g))
back_body ts i kind h Rest g = absurd g

pub back_parameter : (naming : Naming) (ts : List Token) (i : ℕ) (kind : Option TokenKind) →
    kind_at ts i ≡ kind → (Rest : ℕ → Type 0) → Goes (parameter_action naming kind) kind ts i Rest →
    Spans (symbol.Parameter naming) ts i Rest
back_parameter naming ts i (Some (Word word.Int)) h Rest g = (h, g)
back_parameter naming ts i kind h Rest g = absurd g

pub back_more_parameters : (naming : Naming) (ts : List Token) (i : ℕ) (kind : Option TokenKind) →
    kind_at ts i ≡ kind → (Rest : ℕ → Type 0) →
    Goes (more_parameters_action naming kind) kind ts i Rest →
    Spans (symbol.MoreParameters naming) ts i Rest
back_more_parameters naming ts i (Some (Mark mark.Comma)) h Rest (int, (j, (x, r))) =
    (j, (more_parameters naming ts i j h int x, r))
back_more_parameters Full ts i (Some (Mark mark.RightParen)) h Rest g =
    (g.0, (no_more_parameters Full ts i g.0 h g.1.0, g.1.1))
back_more_parameters Partial ts i (Some (Mark mark.RightParen)) h Rest g =
    (i + 1 + 1, (no_more_parameters Partial ts i (i + 1 + 1) h (g.0, refl), g.1))
back_more_parameters naming ts i kind h Rest g = absurd g

-- what comes after `int` where no name does
nameless_from : (naming : Naming) (ts : List Token) (i : ℕ) → (kind_at ts i ≡ Some Name → ⊥) →
    (Rest : ℕ → Type 0) → Spans (symbol.MoreParameters Partial) ts i Rest →
    Spans (symbol.ParameterName naming) ts i Rest
nameless_from naming ts i unnamed Rest (j, (x, r)) = (j, (no_name naming ts i j unnamed x, r))

pub back_parameter_name : (naming : Naming) (ts : List Token) (i : ℕ) (kind : Option TokenKind) →
    kind_at ts i ≡ kind → (Rest : ℕ → Type 0) →
    Goes (parameter_name_action naming kind) kind ts i Rest →
    Spans (symbol.ParameterName naming) ts i Rest
back_parameter_name naming ts i (Some Name) h Rest (j, (x, r)) = (j, (a_name naming ts i j h x, r))
back_parameter_name naming ts i kind h Rest g =
    nameless_from naming ts i (λ e. let clash : kind ≡ Some Name = sym h ∙ e in absurd cc) Rest
    (back_more_parameters Partial ts i kind h Rest g)

-- a heading that goes on to a body, or to the semicolon of a prototype
pub opening_of : (ts : List Token) (i j k : ℕ) (ps : Option (List (Option ℕ))) (names : List ℕ) →
    Parameters ts i j ps → names_of ps ≡ Some names → AfterHeading ts j k → AfterOpening ts i k
opening_of ts i j k ps names p h (a_body _ _ _ body b) = of_function ts i j k ps names body p h b
opening_of ts i j k ps names p h (no_body _ _ q) = of_prototype ts i j ps p q

-- parameters, and what comes after them to the end of the function or prototype
data Remaining : Naming → List Token → ℕ → ℕ → Type 0 where
  all_named : (ts : List Token) → (i j k : ℕ) → (os : List (Option ℕ)) → (names : List ℕ) →
      Listed ts i j os → all_names os ≡ Some names → AfterHeading ts j k → Remaining Full ts i k
  declared_only : (naming : Naming) → (ts : List Token) → (i j : ℕ) → (os : List (Option ℕ)) →
      Listed ts i j os → kind_at ts j ≡ Some (Mark mark.Semicolon) → Remaining naming ts i (j + 1)

-- each parameter has a name where those of a function are wanted
abbrev Named : Naming → Option ℕ → Type 0
Named Full o = (name : ℕ) × (o ≡ Some name)
Named Partial o = Unit {0}

is_named : (naming : Naming) (name : ℕ) → Named naming (Some name)
is_named Full name = (name, refl)
is_named Partial name = tt

-- the last parameter
ends_remaining : (naming : Naming) (ts : List Token) (i j k : ℕ) (o : Option ℕ) → Named naming o →
    Listed ts i (j + 1) (o ∷ []) → AfterParameters naming ts (j + 1) k → Remaining naming ts i k
ends_remaining Full ts i j k o n l a =
    let all : all_names (o ∷ []) ≡ Some (n.0 ∷ []) = ap (λ z. all_names (z ∷ [])) n.1 in
    all_named ts i (j + 1) k (o ∷ []) (n.0 ∷ []) l all a
ends_remaining Partial ts i j k o n l a =
    let there : Remaining Partial ts i (j + 1 + 1) =
    declared_only Partial ts i (j + 1) (o ∷ []) l a.0 in rw (a.1) there

-- a parameter before others
adds_remaining : (naming : Naming) (ts : List Token) (i j k : ℕ) (o : Option ℕ) → Named naming o →
    Parameter ts i j o → kind_at ts j ≡ Some (Mark mark.Comma) → Remaining naming ts (j + 1) k →
    Remaining naming ts i k
adds_remaining _ ts i j k o n p c (all_named _ _ l _ os names r h a) =
    let all : all_names (o ∷ os) ≡ Some (n.0 ∷ names) = ap (λ z. all_names (z ∷ os)) n.1 ∙
    ap (option_map (λ z. n.0 ∷ z)) h in
    all_named ts i l k (o ∷ os) (n.0 ∷ names) (next_parameter ts i j l o os p c r) all a
adds_remaining _ ts i j _ o n p c (declared_only naming _ _ l os r q) =
    declared_only naming ts i l (o ∷ os) (next_parameter ts i j l o os p c r) q

-- what has names enough for a prototype alone has them
fewer_named : (naming : Naming) (ts : List Token) (i k : ℕ) → Remaining Partial ts i k →
    Remaining naming ts i k
fewer_named naming ts i _ (declared_only _ _ _ j os l q) = declared_only naming ts i j os l q

mutual
  -- the parameters from one on
  remaining_of : (naming : Naming) (ts : List Token) (i m k : ℕ) → kind_at ts i ≡
      Some (Word word.Int) → AfterInt naming ts m k → m ≡ i + 1 → Remaining naming ts i k
  remaining_of naming ts i m k h (a_name _ _ _ _ n a) e =
      let here : kind_at ts (i + 1) ≡ Some Name = rw (sym e) n in
      let there : m + 1 ≡ i + 2 = omega (arith, e) in
      let one : Parameter ts i (m + 1) (Some (i + 1)) = rw there (named ts i h here) in
      remaining_after naming ts i (m + 1) k (Some (i + 1)) (is_named naming (i + 1)) one a
  remaining_of naming ts i m k h (no_name _ _ _ _ n a) e =
      let one : Parameter ts i m None = rw e (nameless ts i h (λ q. n (rw e q))) in
      fewer_named naming ts i k (remaining_after Partial ts i m k None tt one a)

  remaining_after : (naming : Naming) (ts : List Token) (i j k : ℕ) (o : Option ℕ) →
      Named naming o → Parameter ts i j o → AfterParameter naming ts j k → Remaining naming ts i k
  remaining_after naming ts i j k o n p (no_more_parameters _ _ _ _ c a) =
      ends_remaining naming ts i j k o n (last_parameter ts i j o p c) a
  remaining_after naming ts i j k o n p (more_parameters _ _ _ _ c h a) =
      adds_remaining naming ts i j k o n p c (remaining_of naming ts (j + 1) (j + 1 + 1) k h a refl)

-- the parameters and the end make up what comes after the opening parenthesis
opening_from : (ts : List Token) (i k : ℕ) → Remaining Full ts i k → AfterOpening ts i k
opening_from ts i k (all_named _ _ j _ os names l h a) =
    opening_of ts i j k (Some os) names (listed ts i j os l) h a
opening_from ts i _ (declared_only _ _ _ j os l q) =
    of_prototype ts i j (Some os) (listed ts i j os l) q

pub back_parameters : (ts : List Token) (i : ℕ) (kind : Option TokenKind) → kind_at ts i ≡ kind →
    (Rest : ℕ → Type 0) → Goes (parameters_action kind) kind ts i Rest →
    Spans symbol.Parameters ts i Rest
back_parameters ts i (Some (Mark mark.RightParen)) h Rest (k, (a, r)) =
    (k, (opening_of ts i (i + 1) k None [] (unsaid ts i h) refl a, r))
back_parameters ts i (Some (Word word.Void)) h Rest (q, (k, (a, r))) =
    let p : Parameters ts i (i + 1 + 1) (Some []) = rw (two_more i) (void ts i (h, q)) in
    (k, (opening_of ts i (i + 1 + 1) k (Some []) [] p refl a, r))
back_parameters ts i (Some (Word word.Int)) h Rest (k, (a, r)) =
    (k, (opening_from ts i k (remaining_of Full ts i (i + 1) k h a refl), r))
back_parameters ts i kind h Rest g = absurd g

-- a function or prototype, from its heading and what comes after the opening parenthesis
external_of : (ts : List Token) (i k : ℕ) → IsHeading ts i → AfterOpening ts (i + 3) k →
    (x : External) × ExternalDeclaration ts i k x
external_of ts i k h (of_function _ _ j _ ps names body p n b) = (
  Defined (record { name = i + 1; params = names; body = body }),
  function ts i j k ps names body h p n b,
)
external_of ts i _ h (of_prototype _ _ j ps p q) =
    (Declared (record { name = i + 1; params = option_map length ps }), prototype ts i j ps h p q)

pub back_program : (ts : List Token) (i : ℕ) (kind : Option TokenKind) → kind_at ts i ≡ kind →
    (Rest : ℕ → Type 0) → Goes (program_action kind) kind ts i Rest → Spans symbol.Program ts i Rest
back_program ts i (Some (Word word.Int)) h Rest (n, (q, (j, (a, (k, ((xs, x), r)))))) =
    let heading : IsHeading ts i = (h, (n, rw (sym (two_more i)) q)) in
    let after : AfterOpening ts (i + 3) j = rw (sym (three_on i)) a in
    let one = external_of ts i j heading after in
    (k, ((one.0 ∷ xs, followed ts i j k one.0 xs one.1 x), r))
back_program ts i None h Rest g = (i, (([], finished ts i), g))
back_program ts i kind h Rest g = absurd g
