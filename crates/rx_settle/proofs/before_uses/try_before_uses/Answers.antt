-- The goal is dropped, or else what comes after that is tried.
use Rattle.rx_settle.proofs.ItemLaws.{delete_first, items_second}
use Rattle.rx_settle.proofs.before_uses.try_before_uses.Goals as goal

pub returns-in-Err-clause-trial : goal.returns-in-Err-clause-trial
returns-in-Err-clause-trial g c =
    delete_first c.args.rules.now c.args.state.now c.try_deleting.new.state
    c.in_ok-try_deleting.field-0 c.in_ok-try_deleting.ensures.trial c.in-Err.taken
    c.in-Err.ensures

pub returns-clause-trial : goal.returns-clause-trial
returns-clause-trial g c =
    items_second c.args.rules.now c.args.state.now c.try_deleting.new.state
    c.in_ok-try_deleting.field-0 c.in_ok-try_deleting.ensures.trial
    c.in_ok-later.later c.after.result c.try_from_unfolding.new.state c.in-Ok.noted c.in-Ok.ensures
    c.in_ok-later.ensures.trial c.after.ensures
