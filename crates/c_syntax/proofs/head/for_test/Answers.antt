use Rattle.std.proofs.Common.{length, Some, refl, arith}
use Rattle.c_lex.specs.declared.token.Mark.TheVariants.{Semicolon}
use Rattle.c_ast.specs.declared.expr.Expr.{Expr}
use Rattle.c_ast.specs.Height.{of_option, expr_height}
use Rattle.c_syntax.specs.Grammar.{UpTo}
use Rattle.c_syntax.specs.Statements.{ForTest}
use Rattle.c_syntax.specs.Readers.{Gives, IsNoHigher}
use Rattle.c_syntax.proofs.Building.{built_some}
use Rattle.c_syntax.proofs.HeadLemmas.{test_none, test_builds}
use Rattle.c_syntax.proofs.head.for_test.Goals as goal

pub returns-then-has_mark : goal.returns-then-has_mark
returns-then-has_mark c =
    test_none c.args.tokens.now c.args.at c.args.room _ c.if-has_mark.ensures refl refl

pub returns : goal.returns
returns c =
    let ts = c.args.tokens.now in
    let read : Gives (IsNoHigher expr_height c.args.room (UpTo Semicolon ts c.args.at)) c.args.at
    (length ts) (Some c.in-Some.read) = rw c.in-Some.is at c.in_ok-read.ensures in
    built_some (λ (e : Expr). Some e) (IsNoHigher expr_height c.args.room
    (UpTo Semicolon ts c.args.at))
    (IsNoHigher (of_option expr_height) c.args.room (ForTest ts c.args.at))
    (test_builds ts c.args.at c.args.room c.if-has_mark.ensures) c.args.at c.args.at (length ts)
    (omega arith) c.in-Some.read _ read refl refl
