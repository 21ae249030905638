use Rattle.std.proofs.Common.{length, Some, None, refl}
use Rattle.c_ast.specs.Height.{stmt_height}
use Rattle.c_syntax.specs.Statements.{InitDeclarator}
use Rattle.c_syntax.specs.Readers.{Gives, IsNoHigher}
use Rattle.c_syntax.proofs.Declaring.{names_end, names_last, names_go}
use Rattle.c_syntax.proofs.declare.declarators.Goals as goal

pub returns-in_default : goal.returns-in_default
returns-in_default c =
    let ts = c.args.tokens.now in
    let read : Gives (IsNoHigher stmt_height c.args.room (InitDeclarator ts c.names.end))
    c.names.end
    (length ts) None = rw c.in_default.is at c.in_ok-read.ensures in
    names_end ts c.args.at c.args.room c.names.found c.names.end c.names.invariant read

pub returns-then-has_mark : goal.returns-then-has_mark
returns-then-has_mark c =
    let ts = c.args.tokens.now in
    let read : Gives (IsNoHigher stmt_height c.args.room (InitDeclarator ts c.names.end))
    c.names.end
    (length ts) (Some c.in-Some.read) = rw c.in-Some.is at c.in_ok-read.ensures in
    names_last ts c.args.at c.args.room c.names.found c.names.end c.names.invariant c.in-Some.read
    read _ c.if-has_mark.ensures c.in_ok-push.ensures.ok refl

pub names-preserved : goal.names-preserved
names-preserved c =
    let ts = c.args.tokens.now in
    let read : Gives (IsNoHigher stmt_height c.args.room (InitDeclarator ts c.names.end))
    c.names.end
    (length ts) (Some c.in-Some.read) = rw c.in-Some.is at c.in_ok-read.ensures in
    rw c.in_ok-push.ensures.ok
    (names_go ts c.args.at c.args.room c.names.found c.names.end c.names.invariant c.in-Some.read
    read c.if-has_mark.ensures)
