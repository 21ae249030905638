use Rattle.std.proofs.Common.{Option, None, refl, sym, ap, subst}
use Rattle.std.specs.Option.{option_copied}
use Rattle.c_ast.specs.declared.expr.Expr.{Expr}
use Rattle.c_code.specs.Flat.{WholeLeads}
use Rattle.c_code.proofs.ProgramCode.{no-whole}
use Rattle.c_code.proofs.compiling.compile_whole.Goals as goal

pub returns-in-None : goal.returns-in-None
returns-in-None c =
    let old = c.args.ops.now.items in
    let P : Option Expr → Type 0 = λ o. WholeLeads old old o None in
    subst P (sym (ap option_copied c.in-None.is)) (no-whole old old refl)
