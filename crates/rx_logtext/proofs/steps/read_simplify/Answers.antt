use Rattle.std.proofs.Common.{None, drop}
use Rattle.rx_logtext.proofs.StepKinds.{kind_reads, simplify_kind}
use Rattle.rx_logtext.proofs.steps.read_simplify.Goals as goal

pub returns-in-None : goal.returns-in-None
returns-in-None c =
    kind_reads (simplify_kind c.args.version) c.args.line.now (drop c.args.at c.args.line.now)
    c.requires None
    (rw c.in-None.is at c.in_ok-side.ensures)
