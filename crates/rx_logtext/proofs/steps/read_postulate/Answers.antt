use Rattle.std.proofs.Common.{None, drop}
use Rattle.rx_logtext.proofs.StepKinds.{kind_reads, postulate_kind}
use Rattle.rx_logtext.proofs.steps.read_postulate.Goals as goal

pub returns-in-None : goal.returns-in-None
returns-in-None c =
    let none = rw c.in-None.is at c.in_ok-left.ensures in
    kind_reads (postulate_kind c.args.version) c.args.line.now (drop c.args.at c.args.line.now)
    c.requires None
    (λ thing t. none thing (record { in_range = t.in_range; text = t.text }))
