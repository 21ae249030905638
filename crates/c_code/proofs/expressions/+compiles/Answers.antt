use Rattle.std.proofs.Common.{◌≡◌, ℕ, ◌∙◌, Option, IfSome, List, [], pos, length, drop, refl, sym, ap, subst, arith, rules}
use Rattle.std.proofs.Math.Seq.{drop-length}
use Rattle.std.proofs.lemmas.Grind.{common_steps}
use mir.Syntax.{w64}
use mir.Val.{of_z, to_z}
use Rattle.c_ast.specs.declared.expr.Expr.{Expr}
use Rattle.c_ast.specs.declared.expr.Expr.TheVariants as syntax
use Rattle.c_ast.specs.declared.expr.BinOp.{BinOp}
use Rattle.c_ast.specs.declared.expr.BinOp.TheVariants.{AndAlso, OrElse}
use Rattle.c_code.specs.declared.code.Operand.{Operand}
use Rattle.c_code.specs.Flat.{do_to, op_to, rests, IsInner, Leads, Makes, operand_of, code_run, arguments_run, expr_run, operand_run, right_run}
use Rattle.c_code.specs.declared.code.Operand.TheVariants.{Constant, Slot}
use Rattle.c_code.specs.declared.code.Work.TheVariants.{Read, Before, Right}
use Rattle.c_code.specs.declared.code.Inner.{Inner}
use Rattle.c_code.specs.declared.code.Work.{Work}
use Rattle.c_code.specs.declared.code.Destination.TheVariants as destination
use Rattle.c_code.specs.declared.code.Op.TheVariants as op
use Rattle.c_code.proofs.Leading.{emitted, emit-then, if_ok-mapped, leads-here}
use Rattle.c_code.proofs.ExpressionCode.{read-leaf, right-leads, strict-leads, both-leads, either-leads, unary-leads, lit-leads, var-leads, choose-leads, call-leads, argument-leads, binary-leads, strict-op, in-form, drop-one}
use Rattle.c_code.proofs.WorkCode.{right-inner-leads, work-leads}
use Rattle.c_code.proofs.expressions.+compiles.Goals as goal

pub compile_arguments-loop-i-init : goal.compile_arguments-loop-i-init
compile_arguments-loop-i-init t c =
    let old = c.args.ops.now.items in
    let n = c.args.next in
    let P : List Expr → Type 0 = λ es. Leads old old n (arguments_run old n es) in
    subst P (sym (drop-length c.args.arguments.now))
    (leads-here old old n (arguments_run old n []) refl c.requires (λ calls back k left. refl))

pub compile_arguments-loop-i-preserved : goal.compile_arguments-loop-i-preserved
compile_arguments-loop-i-preserved t c =
    let old = c.args.ops.now.items in
    let es = c.args.arguments.now in
    let i : ℕ = c.loop-i.i in
    let e = c.index-arguments-i.result in
    let P : List Expr → Type 0 = λ xs. Leads old c.compile_expr.new.ops.items c.in_ok-at.at
    (arguments_run old c.args.next xs) in
    subst P (sym (drop-one es i e (omega arith) (omega arith) c.index-arguments-i.is))
    (argument-leads old c.loop-i.ops.items c.compile_expr.new.ops.items e (drop i es) c.args.next
    c.loop-i.at c.in_ok-at.at c.loop-i.invariant c.in_ok-at.ensures)

pub compile_right-returns-in-Some : goal.compile_right-returns-in-Some
compile_right-returns-in-Some t c =
    let old = c.args.ops.now.items in
    let new = c.emit_work.new.ops.items in
    let b = c.args.b.now in
    let inner = c.in-Some.inner in
    let is = subst (λ (o : Option Inner). IfSome o (λ i. IsInner b i)) c.in-Some.is
    c.inner_of.ensures in
    if_ok-mapped c.emit_work.result (λ p. Leads old new p
    (λ calls back. do_to (rests calls back old) back (Right c.args.op c.args.left inner)
    c.args.destination))
    (λ p. Leads old new p (right_run old c.args.destination c.args.op c.args.left b))
    (λ p leads. right-inner-leads old new c.args.destination c.args.op c.args.left b inner p is
    leads)
    c.emit_work.ensures

pub compile_right-returns : goal.compile_right-returns
compile_right-returns t c =
    let old = c.args.ops.now.items in
    let m1 = c.emit_work-2.new.ops.items in
    let new = c.compile_operand.new.ops.items in
    let s = c.args.destination in
    let b = c.args.b.now in
    let both = c.in_ok-both.both in
    let o = c.operand_of.ensures in
    let made = rw o at c.in_ok-both.ensures in
    if_ok-mapped c.compile_operand.result (λ p. Leads m1 new p (operand_run m1 both b))
    (λ p. Leads old new p (right_run old s c.args.op c.args.left b))
    (λ p last. right-leads old m1 new s c.args.op c.args.left b both p made last)
    c.compile_operand.ensures

pub compile_expr-returns-in-Some : goal.compile_expr-returns-in-Some
compile_expr-returns-in-Some t c =
    let old = c.args.ops.now.items in
    let new = c.emit_work.new.ops.items in
    let s = c.args.destination in
    let e = c.args.e.now in
    let work = c.in-Some.work in
    let makes = subst (λ (o : Option Work). IfSome o (λ w. Makes e w)) c.in-Some.is
    c.work_of.ensures in
    if_ok-mapped c.emit_work.result
    (λ p. Leads old new p (λ calls back. op_to calls back (rests calls back old) (op.Do work s)))
    (λ p. Leads old new p (expr_run old s e))
    (λ p leads. work-leads old new s work e p makes leads)
    c.emit_work.ensures

pub compile_operand-returns-in-Constant : goal.compile_operand-returns-in-Constant
compile_operand-returns-in-Constant t c =
    let old = c.args.ops.now.items in
    let e = c.args.e.now in
    let n = c.args.next in
    let one = c.in-Constant.is in
    let two = c.operand_of.ensures in
    leads-here old old n (operand_run old n e) refl c.requires
    (λ calls back k left. read-leaf calls k left e (λ j m. code_run calls back old n j m)
    (λ popped. absurd (cc)))

pub compile_operand-returns-in-Slot : goal.compile_operand-returns-in-Slot
compile_operand-returns-in-Slot t c =
    let old = c.args.ops.now.items in
    let e = c.args.e.now in
    let n = c.args.next in
    let one = c.in-Slot.is in
    let two = c.operand_of.ensures in
    leads-here old old n (operand_run old n e) refl c.requires
    (λ calls back k left. read-leaf calls k left e (λ j m. code_run calls back old n j m)
    (λ popped. absurd (cc)))

pub compile_parts-returns-in-Lit : goal.compile_parts-returns-in-Lit
compile_parts-returns-in-Lit t c =
    let old = c.args.ops.now.items in
    let new = c.emit.new.ops.items in
    let s = c.args.destination in
    let plain : to_z w64 (of_z w64 c.in-Lit.value) ≡ c.in-Lit.value =
    first_of (search rules, grind (arith, common_steps)) in
    let added = rw plain at c.emit.ensures.added in
    emit-then c.emit.result old new (op.Do (Read (Constant c.in-Lit.value)) s)
    (λ p. Leads old new p (expr_run old s c.args.e.now)) tt
    (λ p leads. in-form old new s p c.args.e.now (syntax.Lit c.in-Lit.value) c.in-Lit.is
    (lit-leads old new s c.in-Lit.value p leads))
    c.emit.ensures.position added

pub compile_parts-returns-in-Var : goal.compile_parts-returns-in-Var
compile_parts-returns-in-Var t c =
    let old = c.args.ops.now.items in
    let new = c.emit-in-Var.new.ops.items in
    let s = c.args.destination in
    emit-then c.emit-in-Var.result old new (op.Do (Read (Slot c.in-Var.slot)) s)
    (λ p. Leads old new p (expr_run old s c.args.e.now)) tt
    (λ p leads. in-form old new s p c.args.e.now (syntax.Var c.in-Var.slot) c.in-Var.is
    (var-leads old new s c.in-Var.slot p leads))
    c.emit-in-Var.ensures.position c.emit-in-Var.ensures.added

pub compile_parts-returns-in_ok-next-in-Unary : goal.compile_parts-returns-in_ok-next-in-Unary
compile_parts-returns-in_ok-next-in-Unary t c =
    let old = c.args.ops.now.items in
    let m1 = c.emit-in-Unary.new.ops.items in
    let new = c.compile_operand.new.ops.items in
    let s = c.args.destination in
    let f = c.in-Unary.op in
    let a = c.get-in-Unary.result.now in
    let next = c.in_ok-next-in-Unary.next in
    let is = c.in-Unary.is ∙ ap (λ (x : Expr). syntax.Unary f x) (sym c.get-in-Unary.ensures) in
    let o = c.operand_of.ensures ∙ ap operand_of (c.get.ensures ∙ sym c.get-in-Unary.ensures) in
    let added = rw o at c.in_ok-next-in-Unary.ensures.added in
    if_ok-mapped c.compile_operand.result (λ p. Leads m1 new p (operand_run m1 next a))
    (λ p. Leads old new p (expr_run old s c.args.e.now))
    (λ p last. in-form old new s p c.args.e.now (syntax.Unary f a) is
    (unary-leads old m1 new s f a next p
    (emitted old m1 (op.Do (Before f (operand_of a)) s) next c.in_ok-next-in-Unary.ensures.position
    added tt) last))
    c.compile_operand.ensures

pub compile_parts-returns-in_ok-first-in-Choose : goal.compile_parts-returns-in_ok-first-in-Choose
compile_parts-returns-in_ok-first-in-Choose t c =
    let old = c.args.ops.now.items in
    let m1 = c.compile_expr-in-Choose.new.ops.items in
    let m2 = c.compile_expr-in-Choose-2.new.ops.items in
    let new = c.compile_expr-in-Choose-3.new.ops.items in
    let s = c.args.destination in
    let b = c.get-in-Choose.result.now in
    let a = c.get-in-Choose-2.result.now in
    let test = c.get-in-Choose-3.result.now in
    let other = c.in_ok-other-in-Choose.other in
    let taken = c.in_ok-first-in-Choose.first in
    let is = c.in-Choose.is ∙ (ap (λ (x : Expr). syntax.Choose x c.in-Choose.a c.in-Choose.b)
    (sym c.get-in-Choose-3.ensures)
    ∙ (ap (λ (x : Expr). syntax.Choose test x c.in-Choose.b) (sym c.get-in-Choose-2.ensures)
    ∙ ap (λ (x : Expr). syntax.Choose test a x) (sym c.get-in-Choose.ensures))) in
    if_ok-mapped c.compile_expr-in-Choose-3.result
    (λ p. Leads m2 new p (expr_run m2 (destination.Branch other taken) test))
    (λ p. Leads old new p (expr_run old s c.args.e.now))
    (λ p last. in-form old new s p c.args.e.now (syntax.Choose test a b) is
    (choose-leads old m1 m2 new s c.requires test a b other taken p c.in_ok-other-in-Choose.ensures
    c.in_ok-first-in-Choose.ensures last))
    c.compile_expr-in-Choose-3.ensures

pub compile_parts-returns-in_ok-call-in-Apply : goal.compile_parts-returns-in_ok-call-in-Apply
compile_parts-returns-in_ok-call-in-Apply t c =
    let old = c.args.ops.now.items in
    let m1 = c.after_call.new.ops.items in
    let m2 = c.emit-in-Apply.new.ops.items in
    let new = c.compile_arguments.new.ops.items in
    let s = c.args.destination in
    let f = c.in-Apply.place in
    let es = c.as_slice.result.now in
    let after = c.in_ok-after-in-Apply.after in
    let call = c.in_ok-call-in-Apply.call in
    let is = c.in-Apply.is ∙ ap (λ (xs : List Expr). syntax.Apply f xs) (sym c.as_slice.ensures) in
    let many = c.len.ensures ∙ ap length (sym c.as_slice.ensures) in
    let added = rw many at c.in_ok-call-in-Apply.ensures.added in
    if_ok-mapped c.compile_arguments.result (λ p. Leads m2 new p (arguments_run m2 call es))
    (λ p. Leads old new p (expr_run old s c.args.e.now))
    (λ p last. in-form old new s p c.args.e.now (syntax.Apply f es) is
    (call-leads old m1 m2 new s f es after call p c.in_ok-after-in-Apply.ensures
    (emitted m1 m2 (op.Call f (length es) after) call c.in_ok-call-in-Apply.ensures.position added
    tt) last))
    c.compile_arguments.ensures

pub compile_parts-returns-in_ok-right-in-AndAlso : goal.compile_parts-returns-in_ok-right-in-AndAlso
compile_parts-returns-in_ok-right-in-AndAlso t c =
    let old = c.args.ops.now.items in
    let m1 = c.emit-in-AndAlso.new.ops.items in
    let m2 = c.compile_right.new.ops.items in
    let new = c.compile_expr.new.ops.items in
    let s = c.args.destination in
    let b = c.get-in-AndAlso.result.now in
    let a = c.get-in-AndAlso-2.result.now in
    let known = c.in_ok-known-in-AndAlso.known in
    let right = c.in_ok-right-in-AndAlso.right in
    let is = c.in-Binary.is ∙ (ap (λ (f : BinOp). syntax.Binary f c.in-Binary.a c.in-Binary.b)
    c.in-AndAlso.is
    ∙ (ap (λ (x : Expr). syntax.Binary AndAlso x c.in-Binary.b) (sym c.get-in-AndAlso-2.ensures)
    ∙ ap (λ (x : Expr). syntax.Binary AndAlso a x) (sym c.get-in-AndAlso.ensures))) in
    let truth = subst (λ (f : BinOp). Leads m1 m2 right (right_run m1 s f (Constant (pos 1)) b))
    c.in-AndAlso.is c.in_ok-right-in-AndAlso.ensures in
    if_ok-mapped c.compile_expr.result (λ p. Leads m2 new p
    (expr_run m2 (destination.Branch known right) a))
    (λ p. Leads old new p (expr_run old s c.args.e.now))
    (λ p last. in-form old new s p c.args.e.now (syntax.Binary AndAlso a b) is
    (binary-leads old new s AndAlso a b p (both-leads old m1 m2 new s c.requires a b known right p
    (emitted old m1 (op.Do (Read (Constant (pos 0))) s) known
    c.in_ok-known-in-AndAlso.ensures.position c.in_ok-known-in-AndAlso.ensures.added tt)
    truth last)))
    c.compile_expr.ensures

pub compile_parts-returns-in_ok-right-in-OrElse : goal.compile_parts-returns-in_ok-right-in-OrElse
compile_parts-returns-in_ok-right-in-OrElse t c =
    let old = c.args.ops.now.items in
    let m1 = c.emit-in-OrElse.new.ops.items in
    let m2 = c.compile_right-in-OrElse.new.ops.items in
    let new = c.compile_expr-in-OrElse.new.ops.items in
    let s = c.args.destination in
    let b = c.get-in-OrElse.result.now in
    let a = c.get-in-OrElse-2.result.now in
    let known = c.in_ok-known-in-OrElse.known in
    let right = c.in_ok-right-in-OrElse.right in
    let is = c.in-Binary.is ∙ (ap (λ (f : BinOp). syntax.Binary f c.in-Binary.a c.in-Binary.b)
    c.in-OrElse.is
    ∙ (ap (λ (x : Expr). syntax.Binary OrElse x c.in-Binary.b) (sym c.get-in-OrElse-2.ensures)
    ∙ ap (λ (x : Expr). syntax.Binary OrElse a x) (sym c.get-in-OrElse.ensures))) in
    let truth = subst (λ (f : BinOp). Leads m1 m2 right (right_run m1 s f (Constant (pos 0)) b))
    c.in-OrElse.is c.in_ok-right-in-OrElse.ensures in
    if_ok-mapped c.compile_expr-in-OrElse.result
    (λ p. Leads m2 new p (expr_run m2 (destination.Branch right known) a))
    (λ p. Leads old new p (expr_run old s c.args.e.now))
    (λ p last. in-form old new s p c.args.e.now (syntax.Binary OrElse a b) is
    (binary-leads old new s OrElse a b p (either-leads old m1 m2 new s c.requires a b known right p
    (emitted old m1 (op.Do (Read (Constant (pos 1))) s) known
    c.in_ok-known-in-OrElse.ensures.position c.in_ok-known-in-OrElse.ensures.added tt)
    truth last)))
    c.compile_expr-in-OrElse.ensures

pub compile_parts-returns-in_ok-right-in_default : goal.compile_parts-returns-in_ok-right-in_default
compile_parts-returns-in_ok-right-in_default t c =
    let old = c.args.ops.now.items in
    let m1 = c.compile_right-in_default.new.ops.items in
    let new = c.compile_operand-in_default.new.ops.items in
    let s = c.args.destination in
    let f = c.in-Binary.op in
    let b = c.get-in_default-2.result.now in
    let a = c.get-in_default-3.result.now in
    let right = c.in_ok-right-in_default.right in
    let is = c.in-Binary.is ∙ (ap (λ (x : Expr). syntax.Binary f x c.in-Binary.b)
    (sym c.get-in_default-3.ensures)
    ∙ ap (λ (x : Expr). syntax.Binary f a x) (sym c.get-in_default-2.ensures)) in
    let o = c.operand_of-in_default.ensures ∙
    ap operand_of (c.get-in_default.ensures ∙ sym c.get-in_default-3.ensures) in
    let one = subst (λ (x : Operand). Leads old m1 right (right_run old s f x b)) o
    c.in_ok-right-in_default.ensures in
    if_ok-mapped c.compile_operand-in_default.result (λ p. Leads m1 new p (operand_run m1 right a))
    (λ p. Leads old new p (expr_run old s c.args.e.now))
    (λ p last. in-form old new s p c.args.e.now (syntax.Binary f a b) is
    (binary-leads old new s f a b p (strict-leads old m1 new s f a b right p one last
    (λ x. strict-op f x c.in_default.not-AndAlso c.in_default.not-OrElse))))
    c.compile_operand-in_default.ensures
