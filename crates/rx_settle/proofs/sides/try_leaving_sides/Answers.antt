-- What is found at the first goal is taken.
use Rattle.std.proofs.Common.{◌∙◌, ap, sym, refl}
use Rattle.std.specs.Option.{option_copied}
use Rattle.rx_moves.specs.Unfolding.{leaving_sides}
use Rattle.rx_settle.proofs.FirstLaws.{found_answer, no_goal}
use Rattle.rx_settle.proofs.sides.try_leaving_sides.Goals as goal

pub returns-in_default-clause-trial : goal.returns-in_default-clause-trial
returns-in_default-clause-trial g c =
    no_goal (leaving_sides c.args.rules.now c.args.state.now) c.args.rules.now c.args.state.now
    c.failed.result (sym c.first.ensures ∙ ap option_copied c.in_default.is) c.failed.ensures

pub returns-clause-trial : goal.returns-clause-trial
returns-clause-trial g c =
    found_answer (λ state. leaving_sides c.args.rules.now state c.in-Some.goal.now)
    c.args.rules.now c.args.state.now c.take_found.new.state c.in-Some.goal.now
    (leaving_sides c.args.rules.now c.args.state.now) c.in_ok-found.found c.take_found.result
    c.in-Some.ensures refl c.in_ok-found.ensures.found c.take_found.ensures.trial
