-- The first failure so far is that of the log; else a rank that isn't lawful is.
use Rattle.rx_check.proofs.Fronts.{bad_front, failed_front, lawful_widths}
use Rattle.rx_check.proofs.replayer.Replayer.judge_ranks.Goals as goal

pub returns-in-Some-clause-fails : goal.returns-in-Some-clause-fails
returns-in-Some-clause-fails c = λ target replays.
    failed_front c.args.self.now c.args.rules.now target c.args.log.now replays c.requires
    c.in-Some.end c.in-Some.is

pub returns-in-Some-bad_ranks-clause-fails : goal.returns-in-Some-bad_ranks-clause-fails
returns-in-Some-bad_ranks-clause-fails c = λ target replays.
    bad_front c.args.self.now c.args.rules.now target c.args.log.now replays c.requires
    c.in-Some-bad_ranks.sym c.in_default.is c.in-Some-bad_ranks.ensures

pub returns-in-None-clause-widths : goal.returns-in-None-clause-widths
returns-in-None-clause-widths c =
    lawful_widths c.args.rules.now c.args.log.now.table c.in-None.ensures
