use Rattle.std.proofs.Common.{rules, ◌∙◌, ap, sym, subst, refl, length, Some, None, Ok, Err}
use Rattle.rx_poly.specs.declared.poly_end.PolyEnd.TheVariants.{Large}
use Rattle.c_ast.specs.declared.stmt.Stmt.{Stmt}
use Rattle.rx_code.specs.Codes.{test_or_one}
use Rattle.rx_code.specs.Pieces.{is_room}
use Rattle.rx_exprs.specs.Compiles.{CompilesCode, condition_at}
use Rattle.rx_stmts.specs.Statements.{head_at, list_at, slots_after, slots_after_list, stmt_at}
use Rattle.rx_stmts.specs.declared.places.Places.{Places}
use Rattle.rx_exprs.proofs.Following.{Fails, fails_code}
use Rattle.rx_stmts.proofs.Heads.{fails_head, head_compiled, leading, no_head, no_list}
use Rattle.rx_stmts.proofs.Loops.{body_fails, for_compiled, if_else_compiled, same_for, same_if, test_fails, turned}
use Rattle.rx_stmts.proofs.StatementList.{between, next, no_point, no_statement}
use Rattle.rx_stmts.proofs.stmts.+stmts.Goals as goal

pub list-returns-in_err-next : goal.list-returns-in_err-next
list-returns-in_err-next t c =
    let now = c.loop-i.code in
    let s = c.index-ts-i.result in
    let f : Fails c.from_residual.result (is_room (length now.opened)
    (slots_after c.args.setting.integers s c.loop-i.at.width)) =
    search (rules, c.in_err-next.ensures.point c.args.setting.integers) in
    record {
      code =
          fails_code c.args.code.now c.open_after.new.code c.from_residual.result
          (is_room (length now.opened) (slots_after c.args.setting.integers s c.loop-i.at.width))
          (list_at c.args.setting.integers c.args.ts.now c.args.p c.args.code.now) f
          (no_point c.args.ts.now c.loop-i.i c.loop-i-test.true c.index-ts-i.is c.loop-i.invariant
          c.if-i-ts.false);
    }

pub list-returns-in_err-statement : goal.list-returns-in_err-statement
list-returns-in_err-statement t c =
    let s = c.index-ts-i.result in
    let part = stmt_at c.args.setting.integers s (between c.loop-i.at c.in_ok-next.next c.args.p)
    c.open_after.new.code in
    let f : Fails c.from_residual-in_err-statement.result part.within = search rules in
    record {
      code =
          fails_code c.args.code.now c.statement-in-loop-i.new.code
          c.from_residual-in_err-statement.result part.within
          (list_at c.args.setting.integers c.args.ts.now c.args.p c.args.code.now) f
          (no_statement c.args.ts.now c.loop-i.i c.loop-i-test.true c.index-ts-i.is
          c.loop-i.invariant c.if-i-ts.false c.open_after.new.code c.in_ok-next.next
          (c.in_ok-next.ensures.point c.args.setting.integers));
    }

pub list-loop-i-preserved : goal.list-loop-i-preserved
list-loop-i-preserved t c =
    next c.args.ts.now c.loop-i.i c.loop-i-test.true c.index-ts-i.is c.loop-i.invariant
    c.if-i-ts.false c.open_after.new.code c.in_ok-next.next (c.in_ok-next.ensures.point
    c.args.setting.integers)
    c.statement-in-loop-i.new.code c.in_ok-statement.ensures.code

pub statement-returns-in_ok-statement-in-Some : goal.statement-returns-in_ok-statement-in-Some
statement-returns-in_ok-statement-in-Some t c =
    let s = c.get-in-Some.result.now in
    let u = c.get-in-Some-2.result.now in
    let y = c.in_ok-y-in-Some in
    let w = c.in_ok-w-in-Some in
    record {
      code =
          if_else_compiled c.args.setting.integers c.args.t.now c.in-If.test s u c.args.code.now
          c.open.new.self
          c.open-in-Some.new.self c.condition.new.code c.statement.new.code
          c.statement-in-Some.new.code
          c.args.p y.y w.w c.statement-in-Some.result
          (c.in-If.is ∙ same_if c.in-If.test c.in-If.inner s c.in-Some.other u c.in-If.other
          c.in-Some.is (sym c.get-in-Some.ensures) (sym c.get-in-Some-2.ensures))
          (record { code = y.ensures.code; is = y.ensures.point; room = y.ensures.within })
          (record { code = w.ensures.code; is = w.ensures.point; room = w.ensures.within })
          c.in_ok-condition-in-Some.ensures.condition c.in_ok-statement-in-Some.ensures.code
          c.statement-in-Some.ensures.code;
    }

pub statement-returns-in-None-change : goal.statement-returns-in-None-change
statement-returns-in-None-change t c =
    let f = c.in-For in
    let first = c.as_slice.result.now in
    let inner = c.get-in-None-change.result.now in
    record {
      code =
          for_compiled c.args.setting.integers c.args.t.now first f.test None inner c.args.code.now
          c.head.new.code
          c.turn.new.code c.args.p c.in_ok-h-in-For.h c.turn.result
          (f.is ∙ same_for f.first first f.test f.change None f.inner inner (sym c.as_slice.ensures)
          c.in-None-change.is (sym c.get-in-None-change.ensures))
          c.in_ok-h-in-For.ensures.head c.turn.ensures.code;
    }

pub statement-returns-in_err-for_test-in-Some-change :
    goal.statement-returns-in_err-for_test-in-Some-change
statement-returns-in_err-for_test-in-Some-change t c =
    let f = c.in-For in
    let first = c.as_slice.result.now in
    let p = c.args.p in
    let h = c.in_ok-h-in-For.h in
    let y = c.in_ok-y-in-Some-change in
    let u = c.in-Some-change.change in
    let part = condition_at c.args.setting.integers (test_or_one f.test) h y.y p.to
    c.turn_points.new.code in
    let e : Fails c.from_residual-in_err-for_test-in-Some-change.result part.within =
    search rules in
    record {
      code =
          fails_code c.args.code.now c.for_test.new.code
          c.from_residual-in_err-for_test-in-Some-change.result part.within
          (stmt_at c.args.setting.integers c.args.t.now p c.args.code.now) e (λ large.
          for_compiled c.args.setting.integers c.args.t.now first f.test (Some u) f.inner
          c.args.code.now c.head.new.code
          c.for_test.new.code p h (Err Large)
          (f.is ∙ same_for f.first first f.test f.change (Some u) f.inner f.inner
          (sym c.as_slice.ensures) c.in-Some-change.is refl) c.in_ok-h-in-For.ensures.head
          (test_fails c.args.setting.integers f.test u f.inner c.head.new.code
          c.turn_points.new.code p h y.y y.k
          y.ensures.points c.for_test.new.code Large (λ same. large)) refl);
    }

pub statement-returns-in_err-statement-in-Some-change :
    goal.statement-returns-in_err-statement-in-Some-change
statement-returns-in_err-statement-in-Some-change t c =
    let f = c.in-For in
    let first = c.as_slice.result.now in
    let inner = c.get-in-Some-change.result.now in
    let p = c.args.p in
    let h = c.in_ok-h-in-For.h in
    let y = c.in_ok-y-in-Some-change in
    let u = c.in-Some-change.change in
    let turn : Places = record { at = y.y; to = y.k; break_to = p.to; continue_to = y.k } in
    let part = stmt_at c.args.setting.integers inner turn c.for_test.new.code in
    let e : Fails c.from_residual-in_err-statement-in-Some-change.result
    (stmt_at c.args.setting.integers inner c.inside_loop.result c.for_test.new.code).within = search
    rules in
    let e_so : Fails c.from_residual-in_err-statement-in-Some-change.result part.within =
    subst (λ (q : Places). Fails c.from_residual-in_err-statement-in-Some-change.result
    (stmt_at c.args.setting.integers inner q c.for_test.new.code).within) c.inside_loop.ensures e in
    record {
      code =
          fails_code c.args.code.now c.statement-in-Some-change.new.code
          c.from_residual-in_err-statement-in-Some-change.result part.within
          (stmt_at c.args.setting.integers c.args.t.now p c.args.code.now) e_so (λ large.
          for_compiled c.args.setting.integers c.args.t.now first f.test (Some u) inner
          c.args.code.now c.head.new.code
          c.statement-in-Some-change.new.code p h (Err Large)
          (f.is ∙ same_for f.first first f.test f.change (Some u) f.inner inner
          (sym c.as_slice.ensures) c.in-Some-change.is (sym c.get-in-Some-change.ensures))
          c.in_ok-h-in-For.ensures.head
          (body_fails c.args.setting.integers f.test u inner c.head.new.code c.turn_points.new.code
          p h y.y y.k
          y.ensures.points c.for_test.new.code c.in_ok-for_test-in-Some-change.ensures.code
          c.statement-in-Some-change.new.code Large (λ same. large)) refl);
    }

pub statement-returns-in_ok-statement-in-Some-change :
    goal.statement-returns-in_ok-statement-in-Some-change
statement-returns-in_ok-statement-in-Some-change t c =
    let f = c.in-For in
    let first = c.as_slice.result.now in
    let inner = c.get-in-Some-change.result.now in
    let u = c.get-in-Some-change-2.result.now in
    let p = c.args.p in
    let h = c.in_ok-h-in-For.h in
    let y = c.in_ok-y-in-Some-change in
    let bodied = subst (λ (q : Places). CompilesCode c.for_test.new.code
    c.statement-in-Some-change.new.code (Ok tt) (stmt_at c.args.setting.integers inner q
    c.for_test.new.code))
    c.inside_loop.ensures c.in_ok-statement-in-Some-change.ensures.code in
    record {
      code =
          for_compiled c.args.setting.integers c.args.t.now first f.test (Some u) inner
          c.args.code.now c.head.new.code
          c.statement-in-Some-change-2.new.code p h c.statement-in-Some-change-2.result
          (f.is ∙ same_for f.first first f.test f.change (Some u) f.inner inner
          (sym c.as_slice.ensures) (c.in-Some-change.is ∙
          ap (λ (s : Stmt). Some s) (sym c.get-in-Some-change-2.ensures))
          (sym c.get-in-Some-change.ensures))
          c.in_ok-h-in-For.ensures.head
          (turned c.args.setting.integers f.test u inner c.head.new.code c.turn_points.new.code p h
          y.y y.k y.ensures.points
          c.for_test.new.code c.in_ok-for_test-in-Some-change.ensures.code
          c.statement-in-Some-change.new.code c.statement-in-Some-change-2.new.code
          c.statement-in-Some-change-2.result bodied c.statement-in-Some-change-2.ensures.code);
    }

-- ---- the first part of a `for`

pub head-returns-in_err-h : goal.head-returns-in_err-h
head-returns-in_err-h t c =
    let integers = c.args.setting.integers in
    let ts = c.args.first.now in
    let old = c.args.code.now in
    let part = is_room (length old.opened) (slots_after_list integers ts c.args.p.at.width) in
    let f : Fails c.from_residual.result part =
    search (rules, c.in_err-h.ensures.point integers) in
    record {
      head =
          fails_head old c.open_after_list.new.code c.from_residual.result part
          (head_at integers ts c.args.p old) f
          (no_head integers c.args.p old ts (sym c.is_empty.ensures ∙ c.if-is_empty.false));
    }

pub head-returns-in_err-list : goal.head-returns-in_err-list
head-returns-in_err-list t c =
    let integers = c.args.setting.integers in
    let ts = c.args.first.now in
    let old = c.args.code.now in
    let one = c.open_after_list.new.code in
    let h = c.in_ok-h in
    let part = (list_at integers ts (leading h.h c.args.p) one).within in
    let f : Fails c.from_residual-in_err-list.result part = search rules in
    record {
      head =
          fails_head old c.list.new.code c.from_residual-in_err-list.result part
          (head_at integers ts c.args.p old) f
          (no_list integers c.args.p old one h.h ts
          (sym c.is_empty.ensures ∙ c.if-is_empty.false) (h.ensures.point integers));
    }

pub head-returns : goal.head-returns
head-returns t c =
    let integers = c.args.setting.integers in
    record {
      head =
          head_compiled integers c.args.p c.args.code.now c.open_after_list.new.code c.in_ok-h.h
          c.args.first.now c.list.new.code (sym c.is_empty.ensures ∙ c.if-is_empty.false)
          (c.in_ok-h.ensures.point integers) c.in_ok-list.ensures.code;
    }
