use Rattle.std.proofs.Common.{◌∙◌, ℕ, Option, None, Some, List, length, drop, refl, sym, ap, subst, arith, rules}
use Rattle.std.proofs.Math.Seq.{drop-length}
use Rattle.std.specs.Option.{option_map}
use Rattle.std.specs.Prelude.{IfOk}
use Rattle.c_ast.specs.declared.stmt.Stmt.{Stmt}
use Rattle.c_ast.specs.declared.stmt.Stmt.TheVariants as syntax
use Rattle.c_meaning.specs.CountedStatements.{loop, optional, stmt}
use Rattle.c_code.specs.Scopes.{AddNoSlots}
use Rattle.c_code.specs.Flat.{Leads, expr_run, flow_run, for_loop, sequence_run, stmt_run, turn_of}
use Rattle.c_code.specs.declared.code.Destination.TheVariants as destination
use Rattle.c_code.specs.declared.code.Op.TheVariants as op
use Rattle.c_code.proofs.Leading.{emit-then, if_ok-mapped, longer-length, exits-below}
use Rattle.c_code.proofs.LoopCode.{loop-leads, while-turn-leads, no-change, do-turn-leads}
use Rattle.c_code.proofs.StatementCode.{inside-within, one-longer, nothing-leads, sequence-none, sequence-leads, block-leads, do-leads, while-leads, for-leads, if-leads, empty-leads, break-leads, continue-leads, assign-leads, for-all-leads, turn-For, in-form, drop-one}
use Rattle.c_code.proofs.Unscoped.{plain-block-leads}
use Rattle.c_code.proofs.statements.+executes.Goals as goal

pub compile_other-returns-in-None : goal.compile_other-returns-in-None
compile_other-returns-in-None t c =
    let old = c.args.ops.now.items in
    let P : Option Stmt → Type 0 = λ o. Leads old old c.args.exits.next
    (flow_run old c.args.exits (λ calls. optional (option_map (stmt calls) o))) in
    subst P (sym c.in-None.is) (nothing-leads old old c.args.exits c.requires refl)

pub compile_sequence-loop-i-init : goal.compile_sequence-loop-i-init
compile_sequence-loop-i-init t c =
    let old = c.args.ops.now.items in
    let P : List Stmt → Type 0 = λ ts. Leads old old c.args.exits.next
    (sequence_run old c.args.exits ts) in
    subst P (sym (drop-length c.args.statements.now)) (sequence-none old c.args.exits c.requires)

pub compile_sequence-loop-i-preserved : goal.compile_sequence-loop-i-preserved
compile_sequence-loop-i-preserved t c =
    let old = c.args.ops.now.items in
    let ts = c.args.statements.now in
    let i : ℕ = c.loop-i.i in
    let s = c.index-statements-i.result in
    let P : List Stmt → Type 0 = λ xs. Leads old c.compile_stmt.new.ops.items c.in_ok-next.next
    (sequence_run old c.args.exits xs) in
    subst P (sym (drop-one ts i s (omega arith) (omega arith) c.index-statements-i.is))
    (sequence-leads old c.loop-i.ops.items c.compile_stmt.new.ops.items c.args.exits c.requires s
    (drop i ts) c.loop-i.next c.in_ok-next.next
    c.loop-i.invariant c.in_ok-next.ensures)

pub compile_block-returns-then-add_no_slots : goal.compile_block-returns-then-add_no_slots
compile_block-returns-then-add_no_slots t c =
    let old = c.args.ops.now.items in
    let new = c.compile_sequence.new.ops.items in
    let exits = c.args.exits in
    let inner = c.as_slice-then-add_no_slots.result.now in
    let other = c.as_slice.ensures ∙ sym c.as_slice-then-add_no_slots.ensures in
    let none = subst (λ (ts : List Stmt). AddNoSlots ts) other c.if-add_no_slots.ensures in
    let P : List Stmt → Type 0 = λ ts. IfOk c.compile_sequence.result (λ p.
    Leads old new p (stmt_run old exits (syntax.Block ts))) in
    subst P c.as_slice-then-add_no_slots.ensures
    (if_ok-mapped c.compile_sequence.result (λ p. Leads old new p (sequence_run old exits inner))
    (λ p. Leads old new p (stmt_run old exits (syntax.Block inner)))
    (λ p leads. plain-block-leads old new exits p inner none leads)
    c.compile_sequence.ensures)

pub compile_block-returns : goal.compile_block-returns
compile_block-returns t c =
    let old = c.args.ops.now.items in
    let m1 = c.scoped.new.ops.items in
    let m2 = c.compile_sequence-2.new.ops.items in
    let new = c.emit.new.ops.items in
    let exits = c.args.exits in
    let same = c.as_slice-2.ensures in
    let begun = rw same at c.in_ok-begun.ensures in
    emit-then c.emit.result m2 new (op.Enter c.in_ok-begun.begun)
    (λ p. Leads old new p (stmt_run old exits (syntax.Block c.args.inner.now))) tt
    (λ p three. block-leads old m1 exits c.in_ok-within.within c.in_ok-within.ensures m2 new
    c.args.inner.now c.in_ok-begun.begun p begun three)
    c.emit.ensures.position c.emit.ensures.added

pub compile_while-compile_stmt-requires : goal.compile_while-compile_stmt-requires
compile_while-compile_stmt-requires t c =
    let old = c.args.ops.now.items in
    let m1 = c.emit.new.ops.items in
    let one = one-longer old m1 (op.Turn c.args.whole c.args.exits 0) c.in_ok-turn.ensures.added in (
      search rules,
      inside-within (length old) (length m1) (omega arith) c.args.exits c.inside.result
          c.in_ok-turn.turn c.in_ok-turn.ensures.within c.inside.ensures c.requires.within,
    )

pub compile_while-returns : goal.compile_while-returns
compile_while-returns t c =
    let old = c.args.ops.now.items in
    let m1 = c.emit.new.ops.items in
    let m3 = c.compile_stmt.new.ops.items in
    let m4 = c.compile_expr.new.ops.items in
    let new = c.close.new.ops.items in
    let exits = c.args.exits in
    let whole = c.args.whole in
    let turn = c.in_ok-turn.turn in
    let one = one-longer old m1 (op.Turn whole exits 0) c.in_ok-turn.ensures.added in
    let same = c.inside.ensures in
    let body = rw same at c.in_ok-holds.ensures in
    loop-leads old m1 m4 new whole exits c.requires.within turn c.in_ok-begin.begin
    c.in_ok-turn.ensures.position c.in_ok-turn.ensures.added
    (while-turn-leads m1 m1 m3 m4 turn exits (exits-below (length old) (length m1) (omega arith)
    exits c.requires.within)
    (Some c.args.test.now) None c.args.body.now whole.now c.requires.parts turn c.in_ok-holds.holds
    c.in_ok-begin.begin
    (no-change m1 turn exits c.in_ok-turn.ensures.within) body c.in_ok-begin.ensures)
    c.close.ensures

pub compile_do-compile_stmt-requires : goal.compile_do-compile_stmt-requires
compile_do-compile_stmt-requires t c =
    let old = c.args.ops.now.items in
    let m1 = c.emit.new.ops.items in
    let m2 = c.compile_expr.new.ops.items in
    let one = one-longer old m1 (op.Turn c.args.whole c.args.exits 0) c.in_ok-turn.ensures.added in
    let tested = c.in_ok-tested.ensures in
    let two = longer-length m1 tested.more m2 tested.longer in (
      search rules,
      inside-within (length old) (length m2) (omega arith) c.args.exits c.inside.result
          c.in_ok-tested.tested tested.within c.inside.ensures c.requires.within,
    )

pub compile_do-returns : goal.compile_do-returns
compile_do-returns t c =
    let old = c.args.ops.now.items in
    let m1 = c.emit.new.ops.items in
    let m2 = c.compile_expr.new.ops.items in
    let m3 = c.compile_stmt.new.ops.items in
    let new = c.close.new.ops.items in
    let exits = c.args.exits in
    let whole = c.args.whole in
    let turn = c.in_ok-turn.turn in
    let one = one-longer old m1 (op.Turn whole exits 0) c.in_ok-turn.ensures.added in
    let same = c.inside.ensures in
    let body = rw same at c.in_ok-begin.ensures in
    loop-leads old m1 m3 new whole exits c.requires.within turn c.in_ok-begin.begin
    c.in_ok-turn.ensures.position c.in_ok-turn.ensures.added
    (do-turn-leads m1 m2 m3 turn c.in_ok-turn.ensures.within exits
    (exits-below (length old) (length m1) (omega arith) exits c.requires.within)
    c.args.test.now c.args.body.now whole.now c.requires.parts c.in_ok-tested.tested
    c.in_ok-begin.begin c.in_ok-tested.ensures body)
    c.close.ensures

pub compile_stmt-returns-in-Empty : goal.compile_stmt-returns-in-Empty
compile_stmt-returns-in-Empty t c =
    let old = c.args.ops.now.items in
    in-form old old c.args.exits c.args.exits.next c.args.statement.now syntax.Empty c.in-Empty.is
    (empty-leads old old c.args.exits c.requires refl)

pub compile_stmt-returns-in-Break : goal.compile_stmt-returns-in-Break
compile_stmt-returns-in-Break t c =
    let old = c.args.ops.now.items in
    in-form old old c.args.exits c.args.exits.broken c.args.statement.now _ c.in-Break.is
    (break-leads old old c.args.exits _ c.requires refl)

pub compile_stmt-returns-in-Continue : goal.compile_stmt-returns-in-Continue
compile_stmt-returns-in-Continue t c =
    let old = c.args.ops.now.items in
    in-form old old c.args.exits c.args.exits.continued c.args.statement.now _ c.in-Continue.is
    (continue-leads old old c.args.exits _ c.requires refl)

pub compile_stmt-returns-in-Assign : goal.compile_stmt-returns-in-Assign
compile_stmt-returns-in-Assign t c =
    let old = c.args.ops.now.items in
    let new = c.compile_expr.new.ops.items in
    let exits = c.args.exits in
    if_ok-mapped c.compile_expr.result (λ p. Leads old new p
    (expr_run old (destination.Assign c.in-Assign.at exits.next) c.in-Assign.value))
    (λ p. Leads old new p (stmt_run old exits c.args.statement.now))
    (λ p leads. in-form old new exits p c.args.statement.now
    (syntax.Assign c.in-Assign.at c.in-Assign.value) c.in-Assign.is
    (assign-leads old new exits c.in-Assign.at p c.in-Assign.value leads))
    c.compile_expr.ensures

pub compile_stmt-returns-in_ok-taken-in-If : goal.compile_stmt-returns-in_ok-taken-in-If
compile_stmt-returns-in_ok-taken-in-If t c =
    let old = c.args.ops.now.items in
    let m1 = c.compile_other.new.ops.items in
    let m2 = c.compile_stmt.new.ops.items in
    let new = c.compile_expr-in-If.new.ops.items in
    let exits = c.args.exits in
    let test = c.in-If.test in
    let inner = c.get.result.now in
    let is = c.in-If.is ∙ ap (λ (s : Stmt). syntax.If test s c.in-If.other) (sym c.get.ensures) in
    if_ok-mapped c.compile_expr-in-If.result (λ p.
    Leads m2 new p (expr_run m2 (destination.Branch c.in_ok-other-in-If.other
    c.in_ok-taken-in-If.taken) test))
    (λ p. Leads old new p (stmt_run old exits c.args.statement.now))
    (λ p last. in-form old new exits p c.args.statement.now (syntax.If test inner c.in-If.other) is
    (if-leads old m1 m2 new exits c.requires test inner c.in-If.other c.in_ok-other-in-If.other
    c.in_ok-taken-in-If.taken p c.in_ok-other-in-If.ensures c.in_ok-taken-in-If.ensures last))
    c.compile_expr-in-If.ensures

pub compile_for-returns : goal.compile_for-returns
compile_for-returns t c =
    let old = c.args.ops.now.items in
    let m1 = c.scoped.new.ops.items in
    let m2 = c.emit.new.ops.items in
    let m3 = c.compile_other.new.ops.items in
    let m4 = c.compile_stmt.new.ops.items in
    let m5 = c.compile_condition.new.ops.items in
    let m6 = c.close.new.ops.items in
    let m7 = c.compile_sequence.new.ops.items in
    let new = c.emit-2.new.ops.items in
    let exits = c.args.exits in
    let whole = c.args.whole in
    let inner = c.in_ok-inner.inner in
    let scope = c.in_ok-inner.ensures in
    let turn = c.in_ok-turn.turn in
    let first = c.args.first.now in
    let test = c.args.test.now in
    let change = c.args.change.now in
    let body = c.args.body.now in
    let is = c.requires.parts in
    let one = one-longer m1 m2 (op.Turn whole inner 0) c.in_ok-turn.ensures.added in
    let same = c.inside.ensures in
    let held = rw same at c.in_ok-holds.ensures in
    let turns = loop-leads m1 m2 m5 m6 whole inner scope.within turn c.in_ok-begin.begin
    c.in_ok-turn.ensures.position c.in_ok-turn.ensures.added
    (while-turn-leads m2 m3 m4 m5 turn inner (exits-below (length m1) (length m2) (omega arith)
    inner scope.within)
    test change body whole.now (λ calls. ap (turn_of calls) is ∙
    turn-For calls first test change body)
    c.in_ok-changed.changed c.in_ok-holds.holds c.in_ok-begin.begin
    c.in_ok-changed.ensures held c.in_ok-begin.ensures)
    c.close.ensures in
    let all = c.as_slice.ensures in
    let begun = rw all at c.in_ok-begun.ensures in
    emit-then c.emit-2.result m7 new (op.Enter c.in_ok-begun.begun)
    (λ p. Leads old new p (stmt_run old exits whole.now)) tt
    (λ p four. in-form old new exits p whole.now (syntax.For first test change body) is
    (for-all-leads old new exits p first test change body
    (subst (λ (s : Stmt). Leads old new p (flow_run old exits
    (λ calls. for_loop calls first (turn_of calls s)))) is
    (for-leads old m1 exits inner scope m6 m7 new whole.now first turn c.in_ok-begun.begun p
    turns begun four))))
    c.emit-2.ensures.position c.emit-2.ensures.added

pub compile_stmt-returns-in-While : goal.compile_stmt-returns-in-While
compile_stmt-returns-in-While t c =
    let old = c.args.ops.now.items in
    let new = c.compile_while.new.ops.items in
    let is = c.in-While.is ∙ ap (λ (s : Stmt). syntax.While c.in-While.test s)
    (sym c.get-in-While.ensures) in
    if_ok-mapped c.compile_while.result
    (λ p. Leads old new p (flow_run old c.args.exits
    (λ calls. loop (turn_of calls c.args.statement.now))))
    (λ p. Leads old new p (stmt_run old c.args.exits c.args.statement.now))
    (λ p leads. while-leads old new c.args.exits p c.args.statement.now c.in-While.test
    c.get-in-While.result.now is leads)
    c.compile_while.ensures

pub compile_stmt-returns-in-DoWhile : goal.compile_stmt-returns-in-DoWhile
compile_stmt-returns-in-DoWhile t c =
    let old = c.args.ops.now.items in
    let new = c.compile_do.new.ops.items in
    let is = c.in-DoWhile.is ∙ ap (λ (s : Stmt). syntax.DoWhile s c.in-DoWhile.test)
    (sym c.get-in-DoWhile.ensures) in
    if_ok-mapped c.compile_do.result
    (λ p. Leads old new p (flow_run old c.args.exits
    (λ calls. loop (turn_of calls c.args.statement.now))))
    (λ p. Leads old new p (stmt_run old c.args.exits c.args.statement.now))
    (λ p leads. do-leads old new c.args.exits p c.args.statement.now c.in-DoWhile.test
    c.get-in-DoWhile.result.now is leads)
    c.compile_do.ensures

pub compile_for-compile_condition-requires-clause-ended :
    goal.compile_for-compile_condition-requires-clause-ended
compile_for-compile_condition-requires-clause-ended t c =
    let m1 = c.scoped.new.ops.items in
    let m2 = c.emit.new.ops.items in
    let m3 = c.compile_other.new.ops.items in
    let m4 = c.compile_stmt.new.ops.items in
    let inner = c.in_ok-inner.inner in
    let one = one-longer m1 m2 (op.Turn c.args.whole inner 0) c.in_ok-turn.ensures.added in
    let changed = c.in_ok-changed.ensures in
    let two = longer-length m2 changed.more m3 changed.longer in
    let holds = c.in_ok-holds.ensures in
    let three = longer-length m3 holds.more m4 holds.longer in
    let within = c.in_ok-inner.ensures.within.next in
    omega arith

pub compile_for-compile_condition-requires-clause-holds :
    goal.compile_for-compile_condition-requires-clause-holds
compile_for-compile_condition-requires-clause-holds t c = c.in_ok-holds.ensures.within

pub compile_for-close-requires : goal.compile_for-close-requires
compile_for-close-requires t c =
    let m2 = c.emit.new.ops.items in
    let m3 = c.compile_other.new.ops.items in
    let m4 = c.compile_stmt.new.ops.items in
    let m5 = c.compile_condition.new.ops.items in
    let changed = c.in_ok-changed.ensures in
    let two = longer-length m2 changed.more m3 changed.longer in
    let holds = c.in_ok-holds.ensures in
    let three = longer-length m3 holds.more m4 holds.longer in
    let begin = c.in_ok-begin.ensures in
    let four = longer-length m4 begin.more m5 begin.longer in
    let within = c.in_ok-turn.ensures.within in
    omega arith

pub compile_while-close-requires : goal.compile_while-close-requires
compile_while-close-requires t c =
    let m1 = c.emit.new.ops.items in
    let m3 = c.compile_stmt.new.ops.items in
    let m4 = c.compile_expr.new.ops.items in
    let holds = c.in_ok-holds.ensures in
    let three = longer-length m1 holds.more m3 holds.longer in
    let begin = c.in_ok-begin.ensures in
    let four = longer-length m3 begin.more m4 begin.longer in
    let within = c.in_ok-turn.ensures.within in
    omega arith

pub compile_do-close-requires : goal.compile_do-close-requires
compile_do-close-requires t c =
    let m1 = c.emit.new.ops.items in
    let m2 = c.compile_expr.new.ops.items in
    let m3 = c.compile_stmt.new.ops.items in
    let tested = c.in_ok-tested.ensures in
    let two = longer-length m1 tested.more m2 tested.longer in
    let begin = c.in_ok-begin.ensures in
    let three = longer-length m2 begin.more m3 begin.longer in
    let within = c.in_ok-turn.ensures.within in
    omega arith

pub compile_stmt-compile_expr-requires-in-If : goal.compile_stmt-compile_expr-requires-in-If
compile_stmt-compile_expr-requires-in-If t c =
    let other = c.in_ok-other-in-If.ensures.within in
    let taken = c.in_ok-taken-in-If.ensures in
    let longer = longer-length c.compile_other.new.ops.items taken.more
    c.compile_stmt.new.ops.items taken.longer in
    (omega arith, taken.within)

pub compile_while-compile_expr-requires : goal.compile_while-compile_expr-requires
compile_while-compile_expr-requires t c =
    let old = c.args.ops.now.items in
    let m1 = c.emit.new.ops.items in
    let one = one-longer old m1 (op.Turn c.args.whole c.args.exits 0) c.in_ok-turn.ensures.added in
    let holds = c.in_ok-holds.ensures in
    let longer = longer-length m1 holds.more c.compile_stmt.new.ops.items holds.longer in
    let next = c.requires.within.next in
    (omega arith, holds.within)

pub compile_do-compile_expr-requires : goal.compile_do-compile_expr-requires
compile_do-compile_expr-requires t c =
    let old = c.args.ops.now.items in
    let m1 = c.emit.new.ops.items in
    let one = one-longer old m1 (op.Turn c.args.whole c.args.exits 0) c.in_ok-turn.ensures.added in
    let next = c.requires.within.next in
    (omega arith, c.in_ok-turn.ensures.within)
