-- Loop points, or else naming.
use Rattle.rx_moves.specs.Unfolding.{leaving_sides}
use Rattle.rx_settle.specs.Settling.{named}
use Rattle.rx_settle.proofs.FirstLaws.{first_of_both, second_of_both}
use Rattle.rx_settle.proofs.before_uses.try_from_leaving.Goals as goal

pub returns-in-Err-clause-trial : goal.returns-in-Err-clause-trial
returns-in-Err-clause-trial g c =
    first_of_both c.args.rules.now c.args.state.now c.try_leaving_sides.new.state
    (leaving_sides c.args.rules.now c.args.state.now) (λ s. named c.args.rules.now s)
    c.in_ok-try_leaving_sides.field-0 c.in_ok-try_leaving_sides.ensures.trial c.in-Err.taken
    c.in-Err.ensures

pub returns-clause-trial : goal.returns-clause-trial
returns-clause-trial g c =
    second_of_both c.args.rules.now c.args.state.now c.try_leaving_sides.new.state
    (leaving_sides c.args.rules.now c.args.state.now) (λ s. named c.args.rules.now s)
    c.in_ok-try_leaving_sides.field-0 c.in_ok-try_leaving_sides.ensures.trial c.in_ok-later.later
    c.after.result c.try_naming.new.state c.in-Ok.noted
    c.in-Ok.ensures c.in_ok-later.ensures.trial c.after.ensures
