-- What came of the goal alone.
use Rattle.std.proofs.Common.{◌∙◌, ap}
use Rattle.rx_steps.specs.Alone.{alone}
use Rattle.rx_settle.proofs.KnownLaws.{found_alone}
use Rattle.rx_settle.proofs.known.Known.find.Goals as goal

pub returns-clause-known : goal.returns-clause-known
returns-clause-known g c = record {
  trial = found_alone c.args.rules.now c.args.goal.now c.in_ok-after.after
      c.try_before_uses.new.state c.in_ok-trial.trial
      (c.in_ok-after.ensures ∙ ap alone c.in_ok-try_clone.ensures) c.in_ok-trial.ensures.trial;
}
