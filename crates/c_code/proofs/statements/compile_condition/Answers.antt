use Rattle.std.proofs.Common.{Option, refl, sym, subst}
use Rattle.c_ast.specs.declared.expr.Expr.{Expr}
use Rattle.c_code.specs.Flat.{Leads, condition_run}
use Rattle.c_code.proofs.StatementCode.{condition-none-leads}
use Rattle.c_code.proofs.statements.compile_condition.Goals as goal

pub returns-in-None : goal.returns-in-None
returns-in-None c =
    let old = c.args.ops.now.items in
    let P : Option Expr → Type 0 = λ o. Leads old old c.args.holds
    (condition_run old c.args.ended c.args.holds o) in
    subst P (sym c.in-None.is) (condition-none-leads old old c.args.ended c.args.holds
    c.requires.holds refl)
