use Rattle.std.proofs.Common.{◌≡◌, ℕ, List, drop, sym, subst, arith}
use Rattle.c_ast.specs.declared.stmt.Stmt.{Stmt}
use Rattle.c_code.specs.Scopes.{AddNoSlots}
use Rattle.c_code.proofs.StatementCode.{drop-one}
use Rattle.c_code.proofs.Unscoped.{none-more}
use Rattle.c_code.proofs.scopes.add_no_slots.Goals as goal

pub loop-i-preserved : goal.loop-i-preserved
loop-i-preserved c =
    let ts = c.args.statements.now in
    let i : ℕ = c.loop-i.i in
    let t = c.index-statements-i.result in
    subst (λ (xs : List Stmt). AddNoSlots xs)
    (sym (drop-one ts i t (omega arith) (omega arith) c.index-statements-i.is))
    (none-more t (drop i ts) c.if-not-adds_no_slot.ensures c.loop-i.invariant)

pub returns : goal.returns
returns c =
    let ts = c.args.statements.now in
    let none : c.loop-i.i ≡ 0 = omega arith in
    subst (λ (n : ℕ). AddNoSlots (drop n ts)) none c.loop-i.invariant
