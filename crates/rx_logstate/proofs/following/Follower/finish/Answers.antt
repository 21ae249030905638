-- The steps before the number were accepted, or one wasn't, or the domains aren't lawful.
use Rattle.std.proofs.Common.{Some, subst, sym}
use Rattle.rx_logstate.specs.Following.{Concludes}
use Rattle.rx_logstate.specs.declared.at_step.AtStep.{AtStep}
use Rattle.rx_logstate.proofs.StepLemmas.{ends_at, ends_refused, ends_unlawful}
use Rattle.rx_logstate.proofs.following.Follower.finish.Goals as goal

pub returns-then-self : goal.returns-then-self
returns-then-self c = λ parts target number log h.
    ends_unlawful parts target number log c.args.self h c.if-self.true

pub returns-then-self-2 : goal.returns-then-self-2
returns-then-self-2 c = λ parts target number log h.
    ends_refused parts target number log c.args.self h c.if-self.false c.if-self-2.true

pub returns : goal.returns
returns c = λ parts target number log h.
    subst (λ (at : AtStep). Concludes parts target log number (Some at)) (sym c.known.ensures)
    (ends_at parts target number log c.args.self h c.known_fronts-fronts.result c.in_ok-line.line
    c.known_fronts-fronts.ensures c.in_ok-line.ensures c.if-self.false c.if-self-2.false)
