use Rattle.std.proofs.Common.{length, Some, refl, ap, arith}
use Rattle.c_lex.specs.declared.token.Mark.TheVariants.{RightParen}
use Rattle.c_ast.specs.declared.stmt.Stmt.{Stmt}
use Rattle.c_ast.specs.Height.{of_option, stmt_height}
use Rattle.c_syntax.specs.Statements.{Change, ForStep}
use Rattle.c_syntax.specs.Readers.{Gives, IsNoHigher}
use Rattle.c_syntax.proofs.Building.{built_some}
use Rattle.c_syntax.proofs.HeadLemmas.{advance_none, advance_builds}
use Rattle.c_syntax.proofs.head.for_step.Goals as goal

pub returns-then-has_mark : goal.returns-then-has_mark
returns-then-has_mark c =
    advance_none c.args.tokens.now c.args.at c.args.room _ c.if-has_mark.ensures refl refl

pub returns : goal.returns
returns c =
    let ts = c.args.tokens.now in
    let read : Gives (IsNoHigher stmt_height c.args.room (Change RightParen ts c.args.at)) c.args.at
    (length ts) (Some c.in-Some.read) = rw c.in-Some.is at c.in_ok-read.ensures in
    built_some (λ (s : Stmt). Some s) (IsNoHigher stmt_height c.args.room
    (Change RightParen ts c.args.at))
    (IsNoHigher (of_option stmt_height) c.args.room (ForStep ts c.args.at))
    (advance_builds ts c.args.at c.args.room c.if-has_mark.ensures) c.args.at c.args.at (length ts)
    (omega arith) c.in-Some.read _ read (ap (λ (s : Stmt). Some s) c.in_ok-new.ensures) refl
