use Rattle.std.proofs.Common.{◌+◌, ◌<◌, length, Some, None, refl, arith}
use Rattle.c_lex.specs.declared.token.TokenKind.TheVariants.{Mark}
use Rattle.c_lex.specs.declared.token.Mark.TheVariants.{LeftParen}
use Rattle.c_ast.specs.Height.{of_option, expr_height, stmt_height}
use Rattle.c_syntax.specs.Statements.{ForInit, ForTest, ForStep}
use Rattle.c_syntax.specs.Heights.{list_height}
use Rattle.c_syntax.specs.Readers.{Gives, IsNoHigher}
use Rattle.c_syntax.proofs.Lookahead.{kind_within}
use Rattle.c_syntax.proofs.HeadLemmas.{head_startless, head_testless, head_changeless, head_reads}
use Rattle.c_syntax.proofs.head.for_head.Goals as goal

pub for_init-requires-clause-inside : goal.for_init-requires-clause-inside
for_init-requires-clause-inside c =
    let within : c.args.at < length c.args.tokens.now =
    kind_within c.args.tokens.now c.args.at (Mark LeftParen) c.if-not-has_mark.ensures in
    omega arith

pub returns-in_default : goal.returns-in_default
returns-in_default c =
    let ts = c.args.tokens.now in
    let first : Gives (IsNoHigher list_height c.args.room (ForInit ts (c.args.at + 1)))
    (c.args.at + 1)
    (length ts) None = rw c.in_default.is at c.in_ok-first.ensures in
    head_startless ts c.args.at c.args.room first

pub returns-in_default-2 : goal.returns-in_default-2
returns-in_default-2 c =
    let ts = c.args.tokens.now in
    let first : Gives (IsNoHigher list_height c.args.room (ForInit ts (c.args.at + 1)))
    (c.args.at + 1)
    (length ts) (Some c.in-Some.first) = rw c.in-Some.is at c.in_ok-first.ensures in
    let test : Gives (IsNoHigher (of_option expr_height) c.args.room
    (ForTest ts c.in-Some.first.end))
    c.in-Some.first.end (length ts) None = rw c.in_default-2.is at c.in_ok-test.ensures in
    head_testless ts c.args.at c.args.room c.in-Some.first first test

pub returns-in_default-3 : goal.returns-in_default-3
returns-in_default-3 c =
    let ts = c.args.tokens.now in
    let first : Gives (IsNoHigher list_height c.args.room (ForInit ts (c.args.at + 1)))
    (c.args.at + 1)
    (length ts) (Some c.in-Some.first) = rw c.in-Some.is at c.in_ok-first.ensures in
    let test : Gives (IsNoHigher (of_option expr_height) c.args.room
    (ForTest ts c.in-Some.first.end))
    c.in-Some.first.end (length ts) (Some c.in-Some-2.test) =
    rw c.in-Some-2.is at c.in_ok-test.ensures in
    let change : Gives (IsNoHigher (of_option stmt_height) c.args.room
    (ForStep ts c.in-Some-2.test.end))
    c.in-Some-2.test.end (length ts) None = rw c.in_default-3.is at c.in_ok-change.ensures in
    head_changeless ts c.args.at c.args.room c.in-Some.first first c.in-Some-2.test test change

pub returns : goal.returns
returns c =
    let ts = c.args.tokens.now in
    let first : Gives (IsNoHigher list_height c.args.room (ForInit ts (c.args.at + 1)))
    (c.args.at + 1)
    (length ts) (Some c.in-Some.first) = rw c.in-Some.is at c.in_ok-first.ensures in
    let test : Gives (IsNoHigher (of_option expr_height) c.args.room
    (ForTest ts c.in-Some.first.end))
    c.in-Some.first.end (length ts) (Some c.in-Some-2.test) =
    rw c.in-Some-2.is at c.in_ok-test.ensures in
    let change : Gives (IsNoHigher (of_option stmt_height) c.args.room
    (ForStep ts c.in-Some-2.test.end))
    c.in-Some-2.test.end (length ts) (Some c.in-Some-3.change) =
    rw c.in-Some-3.is at c.in_ok-change.ensures in
    head_reads ts c.args.at c.args.room c.in-Some.first first c.in-Some-2.test test
    c.in-Some-3.change _ c.if-not-has_mark.ensures change refl refl
