use Rattle.std.proofs.Common.{Option, pos, sym, subst}
use Rattle.c_ast.specs.declared.expr.Expr.{Expr}
use Rattle.c_ast.specs.declared.stmt.Stmt.TheVariants as syntax
use Rattle.c_code.specs.Flat.{Leads, stmt_run}
use Rattle.c_code.specs.declared.code.Operand.TheVariants.{Constant}
use Rattle.c_code.specs.declared.code.Work.TheVariants.{Read}
use Rattle.c_code.specs.declared.code.Destination.TheVariants as destination
use Rattle.c_code.specs.declared.code.Op.TheVariants as op
use Rattle.c_code.proofs.Leading.{emit-then}
use Rattle.c_code.proofs.StatementCode.{declare-none-leads}
use Rattle.c_code.proofs.statements.compile_declaration.Goals as goal

pub returns-in-None : goal.returns-in-None
returns-in-None c =
    let old = c.args.ops.now.items in
    let new = c.emit.new.ops.items in
    emit-then c.emit.result old new (op.Do (Read (Constant (pos 0)))
    (destination.Declare c.args.at c.args.exits.next))
    (λ p. Leads old new p (stmt_run old c.args.exits (syntax.Declare c.args.at c.args.value.now)))
    tt
    (λ p leads. let P : Option Expr → Type 0 = λ o.
    Leads old new p (stmt_run old c.args.exits (syntax.Declare c.args.at o)) in
    subst P (sym c.in-None.is) (declare-none-leads old new c.args.exits c.args.at p leads))
    c.emit.ensures.position c.emit.ensures.added
