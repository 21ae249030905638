-- The step was placed and is counted.
use Rattle.std.proofs.Common.{ℕ, subst, sym}
use Rattle.rx_log.specs.Reading.{pushed}
use Rattle.rx_log.specs.declared.line.Line.TheVariants.{Step}
use Rattle.rx_logstate.specs.Following.{Follows}
use Rattle.rx_logstate.proofs.following.Follower.take_step.Goals as goal

pub returns : goal.returns
returns c = λ target number log h.
    subst (λ (n : ℕ). Follows (record c.place_step.new.self { steps = n }) c.args.rules.now target
    number (pushed (Step c.args.step) log)) (sym c.in_ok-self.ensures)
    (c.in_ok-place_step.ensures.places target number log h)
