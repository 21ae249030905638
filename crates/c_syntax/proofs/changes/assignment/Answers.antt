use Rattle.std.proofs.Common.{◌+◌, ◌-◌, ◌<◌, length, Some, None, refl, arith}
use Rattle.c_lex.specs.declared.token.TokenKind.TheVariants.{Name, Mark}
use Rattle.c_lex.specs.declared.token.Mark.TheVariants.{Assign as AssignMark}
use Rattle.c_ast.specs.declared.stmt.Stmt.TheVariants.{Assign}
use Rattle.c_ast.specs.Height.{expr_height, stmt_height}
use Rattle.c_syntax.specs.Grammar.{UpTo}
use Rattle.c_syntax.specs.Statements.{Change, updated, update}
use Rattle.c_syntax.specs.Readers.{Gives, IsNoHigher}
use Rattle.c_syntax.proofs.Lookahead.{kind_within}
use Rattle.c_syntax.proofs.Building.{built_none, built_some}
use Rattle.c_syntax.proofs.ChangeLemmas.{changing_within, builds_value, builds_update}
use Rattle.c_syntax.proofs.changes.assignment.Goals as goal

pub overflow_add-at : goal.overflow_add-at
overflow_add-at c =
    let within : c.args.at < length c.args.tokens.now =
    kind_within c.args.tokens.now c.args.at Name c.requires.named in omega arith

pub overflow_add-at-then-has_mark : goal.overflow_add-at-then-has_mark
overflow_add-at-then-has_mark c =
    let within : c.args.at < length c.args.tokens.now =
    kind_within c.args.tokens.now c.args.at Name c.requires.named in omega arith

pub expression_until-requires-clause-inside : goal.expression_until-requires-clause-inside
expression_until-requires-clause-inside c =
    let within : c.args.at + 1 < length c.args.tokens.now =
    kind_within c.args.tokens.now (c.args.at + 1) (Mark AssignMark) c.if-has_mark.ensures in
    omega arith

pub overflow_add-at-2 : goal.overflow_add-at-2
overflow_add-at-2 c =
    let within : c.args.at < length c.args.tokens.now =
    kind_within c.args.tokens.now c.args.at Name c.requires.named in omega arith

pub overflow_add-at-3 : goal.overflow_add-at-3
overflow_add-at-3 c =
    let within : c.args.at < length c.args.tokens.now =
    kind_within c.args.tokens.now c.args.at Name c.requires.named in omega arith

pub expression_until-requires-2-clause-inside : goal.expression_until-requires-2-clause-inside
expression_until-requires-2-clause-inside c =
    let within : c.args.at + 1 < length c.args.tokens.now =
    changing_within c.args.tokens.now (c.args.at + 1) (update c.in-Some-update_at.op)
    c.in-Some-update_at.ensures in omega arith

pub returns-then-has_mark : goal.returns-then-has_mark
returns-then-has_mark c =
    let ts = c.args.tokens.now in
    let value : Gives (IsNoHigher expr_height (c.args.room - 1)
    (UpTo c.args.mark ts (c.args.at + 2)))
    (c.args.at + 2) (length ts) (Some c.in-Some.value) =
    rw c.saturating_sub.ensures at (rw c.in-Some.is at c.in_ok-value.ensures) in
    built_some (Assign c.args.at) (IsNoHigher expr_height (c.args.room - 1)
    (UpTo c.args.mark ts (c.args.at + 2)))
    (IsNoHigher stmt_height c.args.room (Change c.args.mark ts c.args.at))
    (builds_value c.args.mark ts c.args.at c.args.room c.requires.named c.if-has_mark.ensures)
    c.args.at (c.args.at + 2) (length ts) (omega arith) c.in-Some.value _ value refl refl

pub returns-in_default-2 : goal.returns-in_default-2
returns-in_default-2 c =
    let ts = c.args.tokens.now in
    let value : Gives (IsNoHigher expr_height (c.args.room - 2)
    (UpTo c.args.mark ts (c.args.at + 2)))
    (c.args.at + 2) (length ts) None = rw c.saturating_sub-2.ensures at
    (rw c.in_default-2.is at c.in_ok-value-2.ensures) in
    built_none (updated c.args.at c.in-Some-update_at.op)
    (IsNoHigher expr_height (c.args.room - 2) (UpTo c.args.mark ts (c.args.at + 2)))
    (IsNoHigher stmt_height c.args.room (Change c.args.mark ts c.args.at))
    (builds_update c.args.mark ts c.args.at c.args.room c.in-Some-update_at.op c.requires.named
    c.in-Some-update_at.ensures) c.args.at (c.args.at + 2) (length ts) value

pub returns : goal.returns
returns c =
    let ts = c.args.tokens.now in
    let value : Gives (IsNoHigher expr_height (c.args.room - 2)
    (UpTo c.args.mark ts (c.args.at + 2)))
    (c.args.at + 2) (length ts) (Some c.in-Some-2.value) =
    rw c.saturating_sub-2.ensures at (rw c.in-Some-2.is at c.in_ok-value-2.ensures) in
    built_some (updated c.args.at c.in-Some-update_at.op)
    (IsNoHigher expr_height (c.args.room - 2) (UpTo c.args.mark ts (c.args.at + 2)))
    (IsNoHigher stmt_height c.args.room (Change c.args.mark ts c.args.at))
    (builds_update c.args.mark ts c.args.at c.args.room c.in-Some-update_at.op c.requires.named
    c.in-Some-update_at.ensures) c.args.at (c.args.at + 2) (length ts) (omega arith)
    c.in-Some-2.value _ value
    c.in_ok-updating.ensures refl
