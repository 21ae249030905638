-- After a step that isn't accepted none is applied.
use Rattle.rx_logstate.proofs.StepLemmas.{refused_stays}
use Rattle.rx_logstate.proofs.following.Reached.take.Goals as goal

pub returns-then-self : goal.returns-then-self
returns-then-self c = λ target steps h.
    refused_stays c.args.rules.now target steps c.args.step c.args.self.now c.if-self.true h
