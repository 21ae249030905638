use Rattle.std.proofs.Common.{refl}
use Rattle.rx_check.specs.Replay.{log_of}
use Rattle.rx_check.proofs.DomainAnswers.{line_stands}
use Rattle.rx_check.proofs.replayer.Replayer.line.Goals as goal

pub returns-clause-stands : goal.returns-clause-stands
returns-clause-stands c = λ goal its symbol stands e.
    line_stands c.args.rules.now goal its c.args.line symbol c.args.behind c.args.self.now _ stands
    e refl (c.in_ok-judge.ensures.judges goal (log_of its) symbol c.args.behind stands.holds e)
