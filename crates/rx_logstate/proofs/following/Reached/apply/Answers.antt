-- The step was applied, or isn't accepted.
use Rattle.std.proofs.Common.{subst, Bool}
use Rattle.rx_logstate.proofs.StepLemmas.{applied_one}
use Rattle.rx_logstate.specs.Following.{Decides}
use Rattle.rx_logstate.proofs.following.Reached.apply.Goals as goal

pub returns : goal.returns
returns c = λ target steps h.
    applied_one c.args.rules.now target steps c.args.self.now.state c.args.step
    c.apply_owned-end.new.state c.apply_owned-end.result _ c.in_ok-self.ensures
    c.apply_owned-end.ensures.answer
    (subst (λ (b : Bool). Decides b c.args.self.now.state c.args.rules.now target steps)
    c.requires h)
