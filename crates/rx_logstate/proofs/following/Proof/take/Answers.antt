-- After domains that aren't lawful no step is applied.
use Rattle.rx_logstate.proofs.StepLemmas.{still_unlawful}
use Rattle.rx_logstate.proofs.following.Proof.take.Goals as goal

pub returns-then-self : goal.returns-then-self
returns-then-self c = λ target domains steps h.
    still_unlawful c.args.rules.now target domains steps c.args.step c.args.self.now c.if-self.true h
