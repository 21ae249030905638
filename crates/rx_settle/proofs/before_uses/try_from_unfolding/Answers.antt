-- Other redexes, or else what comes after them.
use Rattle.rx_settle.specs.AtFirst.{from_leaving}
use Rattle.rx_moves.specs.Unfolding.{unfolding_sides}
use Rattle.rx_settle.proofs.FirstLaws.{first_of_both, second_of_both}
use Rattle.rx_settle.proofs.before_uses.try_from_unfolding.Goals as goal

pub returns-in-Err-clause-trial : goal.returns-in-Err-clause-trial
returns-in-Err-clause-trial g c =
    first_of_both c.args.rules.now c.args.state.now c.try_unfolding_sides.new.state
    (unfolding_sides c.args.rules.now c.args.state.now) (λ s. from_leaving c.args.rules.now s)
    c.in_ok-try_unfolding_sides.field-0 c.in_ok-try_unfolding_sides.ensures.trial c.in-Err.taken
    c.in-Err.ensures

pub returns-clause-trial : goal.returns-clause-trial
returns-clause-trial g c =
    second_of_both c.args.rules.now c.args.state.now c.try_unfolding_sides.new.state
    (unfolding_sides c.args.rules.now c.args.state.now) (λ s. from_leaving c.args.rules.now s)
    c.in_ok-try_unfolding_sides.field-0 c.in_ok-try_unfolding_sides.ensures.trial
    c.in_ok-later.later c.after.result c.try_from_leaving.new.state c.in-Ok.noted
    c.in-Ok.ensures c.in_ok-later.ensures.trial c.after.ensures
