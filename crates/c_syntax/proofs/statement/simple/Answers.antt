use Rattle.std.proofs.Common.{◌+◌, ◌-◌, ◌<◌, length, Some, refl, arith}
use Rattle.c_lex.specs.declared.token.TokenKind.TheVariants.{Word}
use Rattle.c_lex.specs.declared.token.Keyword.TheVariants.{Return as ReturnWord}
use Rattle.c_lex.specs.declared.token.Mark.TheVariants.{Semicolon}
use Rattle.c_ast.specs.declared.stmt.Stmt.TheVariants.{Return}
use Rattle.c_ast.specs.Height.{expr_height, stmt_height}
use Rattle.c_syntax.specs.Grammar.{UpTo}
use Rattle.c_syntax.specs.Statements.{Statement}
use Rattle.c_syntax.specs.Readers.{Gives, IsNoHigher}
use Rattle.c_syntax.proofs.Lookahead.{kind_within}
use Rattle.c_syntax.proofs.Building.{built_some}
use Rattle.c_syntax.proofs.Forms.{reads_nothing, reads_break, reads_continue, builds_return, reads_change}
use Rattle.c_syntax.proofs.statement.simple.Goals as goal

pub returns-then-has_mark : goal.returns-then-has_mark
returns-then-has_mark c =
    reads_nothing c.args.tokens.now c.args.at c.args.room c.requires.some _ c.if-has_mark.ensures refl
    refl

pub returns-then-has_keyword : goal.returns-then-has_keyword
returns-then-has_keyword c =
    reads_break c.args.tokens.now c.args.at c.args.room c.requires.some _ c.if-has_keyword.ensures
    c.jump_statement.ensures

pub returns-then-has_keyword-2 : goal.returns-then-has_keyword-2
returns-then-has_keyword-2 c =
    reads_continue c.args.tokens.now c.args.at c.args.room c.requires.some _ c.if-has_keyword-2.ensures
    c.jump_statement-then-has_keyword-2.ensures

pub expression_until-requires-clause-inside : goal.expression_until-requires-clause-inside
expression_until-requires-clause-inside c =
    let within : c.args.at < length c.args.tokens.now =
    kind_within c.args.tokens.now c.args.at (Word ReturnWord) c.if-has_keyword-3.ensures in omega arith

pub returns-then-has_keyword-3 : goal.returns-then-has_keyword-3
returns-then-has_keyword-3 c =
    let ts = c.args.tokens.now in
    let value : Gives (IsNoHigher expr_height (c.args.room - 1) (UpTo Semicolon ts (c.args.at + 1)))
    (c.args.at + 1) (length ts) (Some c.in-Some.value) =
    rw c.in-Some.is at c.in_ok-value.ensures in
    built_some Return (IsNoHigher expr_height (c.args.room - 1) (UpTo Semicolon ts (c.args.at + 1)))
    (IsNoHigher stmt_height c.args.room (Statement ts c.args.at))
    (builds_return ts c.args.at c.args.room c.requires.some c.if-has_keyword-3.ensures) c.args.at
    (c.args.at + 1) (length ts) (omega arith) c.in-Some.value _ value refl refl

pub returns : goal.returns
returns c =
    reads_change c.args.tokens.now c.args.at c.args.room c.requires.some _ c.requires.simple
    c.if-has_mark.ensures c.if-has_keyword.ensures c.if-has_keyword-2.ensures c.if-has_keyword-3.ensures c.change.ensures
