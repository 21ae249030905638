use Rattle.std.proofs.Common.{length, sym, subst}
use Rattle.c_code.specs.Flat.{DestinationWithin, TopLeads}
use Rattle.c_code.specs.declared.code.Operand.TheVariants.{Popped}
use Rattle.c_code.specs.declared.code.Work.TheVariants.{Read}
use Rattle.c_code.specs.declared.code.Destination.{Destination}
use Rattle.c_code.specs.declared.code.Op.TheVariants as op
use Rattle.c_code.proofs.ExpressionCode.{top-here, top-added}
use Rattle.c_code.proofs.Leading.{emit-then}
use Rattle.c_code.proofs.expressions.after_call.Goals as goal

pub returns-in-Push : goal.returns-in-Push
returns-in-Push c =
    let old = c.args.ops.now.items in
    let n = c.in-Push.next in
    subst (λ (s : Destination). TopLeads old old n s) (sym c.in-Push.is)
    (top-here old n (subst (λ (s : Destination). DestinationWithin (length old) s) c.in-Push.is
    c.requires))

pub returns-in_default : goal.returns-in_default
returns-in_default c =
    emit-then c.emit.result c.args.ops.now.items c.emit.new.ops.items
    (op.Do (Read Popped) c.args.destination)
    (λ p. TopLeads c.args.ops.now.items c.emit.new.ops.items p c.args.destination) tt
    (λ p leads. top-added c.args.ops.now.items c.emit.new.ops.items p c.args.destination leads)
    c.emit.ensures.position c.emit.ensures.added
