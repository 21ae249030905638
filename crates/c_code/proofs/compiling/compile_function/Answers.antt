use Rattle.std.proofs.Common.{pos}
use Rattle.c_code.specs.Flat.{Leads, function_run, sequence_run}
use Rattle.c_code.specs.declared.code.Operand.TheVariants.{Constant}
use Rattle.c_code.specs.declared.code.Work.TheVariants.{Read}
use Rattle.c_code.specs.declared.code.Destination.TheVariants as destination
use Rattle.c_code.specs.declared.code.Op.TheVariants as op
use Rattle.c_code.proofs.Leading.{emitted, if_ok-mapped}
use Rattle.c_code.proofs.ProgramCode.{all_to, function-leads}
use Rattle.c_code.proofs.compiling.compile_function.Goals as goal

pub returns : goal.returns
returns c =
    let old = c.args.ops.now.items in
    let m1 = c.emit.new.ops.items in
    let new = c.compile_sequence.new.ops.items in
    let end = c.in_ok-ended.ended in
    let function = c.args.function.now in
    let same = c.as_slice.ensures in
    let body = rw same at c.compile_sequence.ensures in
    if_ok-mapped c.compile_sequence.result (λ p.
    Leads m1 new p (sequence_run m1 (all_to end) function.body))
    (λ p. Leads old new p (function_run function))
    (λ p two. function-leads old m1 new function end p
    (emitted old m1 (op.Do (Read (Constant (pos 0))) (destination.Return 0)) end
    c.in_ok-ended.ensures.position c.in_ok-ended.ensures.added tt) two)
    body
