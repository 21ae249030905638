use Rattle.std.proofs.Common.{refl}
use Rattle.rx_check.proofs.LineTurns.{ranks_unfinished}
use Rattle.rx_check.proofs.progress.Progress.begin_ranks.Goals as goal

pub returns-then-goals-gt0-clause-judges : goal.returns-then-goals-gt0-clause-judges
returns-then-goals-gt0-clause-judges c =
    ranks_unfinished c.args.rules.now c.args.place c.args.columns c.args.self.now c.args.self.now
    c.goals-goals.result
    (record { covers = c.in_default.ensures.covers; steps = λ _. refl }) c.goals-goals.ensures
    c.if-goals-gt0.true
