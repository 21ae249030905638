use Rattle.std.proofs.Common.{refl, arith}
use Rattle.c_syntax.proofs.ChangeLemmas.{step_reads}
use Rattle.c_syntax.proofs.changes.increment.Goals as goal

pub returns : goal.returns
returns c =
    step_reads c.args.mark c.args.tokens.now c.args.name c.args.at c.args.room c.args.op _
    c.if-not-has_mark.ensures (omega arith) c.in_ok-updating.ensures refl
