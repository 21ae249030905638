-- The move is made where there is one.
use Rattle.std.proofs.Common.{◌∙◌, sym}
use Rattle.rx_settle.proofs.KnownLaws.{made_known, unmade_known}
use Rattle.rx_settle.proofs.known.Known.make.Goals as goal
use Rattle.rx_settle.proofs.known.Known.make.Goals.{then-is_some+in_ok-go_on, else-is_some}

pub returns-clause-trial : goal.returns-clause-trial
returns-clause-trial c = λ parts g first known.
    elim c.if-is_some.branch [
      | then-is_some+in_ok-go_on w ↦
          made_known parts g c.args.self.now c.in_ok-trial.trial c.in_ok-trial.ensures
          c.args.state.now c.if-is_some.state first known
          (sym c.is_some.ensures ∙ w.if-is_some.true) (w.state-is ∙ w.in_ok-go_on.ensures.ok)
      | else-is_some w ↦
          unmade_known parts g c.args.self.now c.in_ok-trial.trial c.in_ok-trial.ensures
          c.args.state.now c.if-is_some.state first known
          (sym c.is_some.ensures ∙ w.if-is_some.false) w.state-is
    ]
