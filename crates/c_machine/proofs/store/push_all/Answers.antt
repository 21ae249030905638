use Rattle.std.proofs.Common.{arith}
use Rattle.std.proofs.Math.ListN.{length-append}
use Rattle.std.proofs.lemmas.Grind.{common_steps}
use Rattle.c_machine.proofs.store.push_all.Goals as goal

pub loop-value-preserved : goal.loop-value-preserved
loop-value-preserved c = grind (arith, common_steps)

pub returns-clause-grown : goal.returns-clause-grown
returns-clause-grown c = rw c.loop-value.invariant (simp length-append (omega arith))

pub returns-in_err-push-clause-grown : goal.returns-in_err-push-clause-grown
returns-in_err-push-clause-grown c =
    rw (c.in_err-push.ensures.items, c.loop-value.invariant) (simp length-append (omega arith))
