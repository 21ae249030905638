use Rattle.std.proofs.Common.{◌≡◌, [], ◌∷◌, length, Some, refl, arith}
use Rattle.c_lex.specs.declared.token.Mark.TheVariants.{Semicolon}
use Rattle.c_ast.specs.declared.stmt.Stmt.{Stmt}
use Rattle.c_ast.specs.Height.{stmt_height}
use Rattle.c_syntax.specs.Statements.{Change, ForInit}
use Rattle.c_syntax.specs.Heights.{list_height}
use Rattle.c_syntax.specs.Readers.{Gives, IsNoHigher}
use Rattle.c_syntax.proofs.Building.{built_some}
use Rattle.c_syntax.proofs.HeadLemmas.{start_none, start_declared, start_builds}
use Rattle.c_syntax.proofs.head.for_init.Goals as goal

pub returns-then-has_mark : goal.returns-then-has_mark
returns-then-has_mark c =
    start_none c.args.tokens.now c.args.at c.args.room _ c.if-has_mark.ensures c.new.ensures refl

pub returns-then-has_keyword : goal.returns-then-has_keyword
returns-then-has_keyword c =
    start_declared c.args.tokens.now c.args.at c.args.room _ c.if-has_keyword.ensures c.declaration.ensures

pub returns : goal.returns
returns c =
    let ts = c.args.tokens.now in
    let read : Gives (IsNoHigher stmt_height c.args.room (Change Semicolon ts c.args.at)) c.args.at
    (length ts) (Some c.in-Some.read) = rw c.in-Some.is at c.in_ok-read.ensures in
    let one : c.push.new.self ≡ c.in-Some.read.value ∷ [] =
    rw c.new-one.ensures at c.in_ok-push.ensures.ok in
    built_some (λ (s : Stmt). s ∷ []) (IsNoHigher stmt_height c.args.room
    (Change Semicolon ts c.args.at))
    (IsNoHigher list_height c.args.room (ForInit ts c.args.at))
    (start_builds ts c.args.at c.args.room c.if-has_mark.ensures c.if-has_keyword.ensures) c.args.at
    c.args.at (length ts) (omega arith) c.in-Some.read _ read one refl
