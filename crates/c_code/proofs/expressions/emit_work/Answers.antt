use Rattle.c_code.specs.Flat.{Leads, do_to, rests}
use Rattle.c_code.proofs.Leading.{emit-then, leads-as}
use Rattle.c_code.proofs.expressions.emit_work.Goals as goal

pub returns : goal.returns
returns c =
    let old = c.args.ops.now.items in
    let new = c.emit.new.ops.items in
    let is = c.op_of.ensures in
    emit-then c.emit.result old new c.op_of.result
    (λ p. Leads old new p (λ calls back. do_to (rests calls back old) back c.args.work
    c.args.destination))
    is.plain
    (λ p leads. leads-as old new p _ _ leads (λ calls back k left.
    is.comes calls back (rests calls back old) k left))
    c.emit.ensures.position c.emit.ensures.added
