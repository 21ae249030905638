use Rattle.std.proofs.Common.{refl}
use Rattle.rx_check.proofs.LineTurns.{step_judges}
use Rattle.rx_check.proofs.progress.Progress.take.Goals as goal

pub returns-clause-judges : goal.returns-clause-judges
returns-clause-judges c =
    step_judges c.args.rules.now c.args.place c.args.step c.args.self.now c.take_counted.new.self
    c.take_counted.result
    (record { covers = c.in_default.ensures.covers; steps = λ _. refl })
    c.take_counted.ensures.counted c.take_counted.ensures.table c.take_counted.ensures.ends
    c.take_counted.ensures.err
