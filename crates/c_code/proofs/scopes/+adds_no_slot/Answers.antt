use Rattle.std.proofs.Common.{ap, ◌∙◌, sym, subst, Option, Some, None}
use Rattle.c_ast.specs.declared.stmt.Stmt.{Stmt}
use Rattle.c_ast.specs.declared.stmt.Stmt.TheVariants as syntax
use Rattle.c_code.specs.Scopes.{AddsNoSlot}
use Rattle.c_code.proofs.Unscoped.{none-If-None, none-If-Some, none-While, none-DoWhile, none-For, none-Block, of-form}
use Rattle.c_code.proofs.scopes.+adds_no_slot.Goals as goal

pub returns-in-While : goal.returns-in-While
returns-in-While t c =
    let body = c.get-in-While.result.now in
    of-form c.adds_no_slot-in-While.result body c.args.statement.now
    (syntax.While c.in-While.field-0 body)
    (c.in-While.is ∙ ap (λ (x : Stmt). syntax.While c.in-While.field-0 x)
    (sym c.get-in-While.ensures))
    (none-While c.in-While.field-0 body) c.adds_no_slot-in-While.ensures

pub returns-in-DoWhile : goal.returns-in-DoWhile
returns-in-DoWhile t c =
    let body = c.get-in-DoWhile.result.now in
    of-form c.adds_no_slot-in-DoWhile.result body c.args.statement.now
    (syntax.DoWhile body c.in-DoWhile.field-1)
    (c.in-DoWhile.is ∙ ap (λ (x : Stmt). syntax.DoWhile x c.in-DoWhile.field-1)
    (sym c.get-in-DoWhile.ensures))
    (none-DoWhile body c.in-DoWhile.field-1) c.adds_no_slot-in-DoWhile.ensures

pub returns-in-For : goal.returns-in-For
returns-in-For t c =
    subst (λ (u : Stmt). AddsNoSlot u) (sym c.in-For.is) (none-For _ _ _ _)

pub returns-in-Block : goal.returns-in-Block
returns-in-Block t c = subst (λ (u : Stmt). AddsNoSlot u) (sym c.in-Block.is) (none-Block _)

pub returns-in-None : goal.returns-in-None
returns-in-None t c =
    let e = c.in-If.field-0 in
    let a = c.get.result.now in
    of-form c.adds_no_slot.result a c.args.statement.now (syntax.If e a None)
    (c.in-If.is ∙ (ap (λ (o : Option Stmt). syntax.If e c.in-If.then o) c.in-None.is
    ∙ ap (λ (x : Stmt). syntax.If e x None) (sym c.get.ensures)))
    (none-If-None e a) c.adds_no_slot.ensures

pub returns-then-adds_no_slot : goal.returns-then-adds_no_slot
returns-then-adds_no_slot t c =
    let e = c.in-If.field-0 in
    let a = c.get-in-Some.result.now in
    let b = c.get-then-adds_no_slot.result.now in
    of-form c.adds_no_slot-then-adds_no_slot.result b c.args.statement.now
    (syntax.If e a (Some b))
    (c.in-If.is ∙ (ap (λ (o : Option Stmt). syntax.If e c.in-If.then o) c.in-Some.is
    ∙ (ap (λ (x : Stmt). syntax.If e x (Some c.in-Some.other)) (sym c.get-in-Some.ensures)
    ∙ ap (λ (x : Stmt). syntax.If e a (Some x)) (sym c.get-then-adds_no_slot.ensures))))
    (λ two. none-If-Some e a b c.if-adds_no_slot.ensures two)
    c.adds_no_slot-then-adds_no_slot.ensures
