-- The left side, or else the right one.
use Rattle.rx_inference.specs.declared.step.Side.TheVariants.{Left, Right}
use Rattle.rx_settle.specs.AtFirst.{using_number}
use Rattle.rx_settle.proofs.FirstLaws.{first_of_both, second_of_both}
use Rattle.rx_settle.proofs.uses.try_use_sides.Goals as goal

pub returns-in-Err-clause-trial : goal.returns-in-Err-clause-trial
returns-in-Err-clause-trial g c =
    first_of_both c.args.by.now.rules.now c.args.state.now c.try_use.new.state
    (using_number c.args.by.now.rules.now c.args.state.now c.args.by.now.how c.args.number Left)
    (λ s. using_number c.args.by.now.rules.now s c.args.by.now.how c.args.number Right)
    c.in_ok-left.left c.in_ok-left.ensures.trial c.in-Err.taken c.in-Err.ensures

pub returns-clause-trial : goal.returns-clause-trial
returns-clause-trial g c =
    second_of_both c.args.by.now.rules.now c.args.state.now c.try_use.new.state
    (using_number c.args.by.now.rules.now c.args.state.now c.args.by.now.how c.args.number Left)
    (λ s. using_number c.args.by.now.rules.now s c.args.by.now.how c.args.number Right)
    c.in_ok-left.left c.in_ok-left.ensures.trial c.in_ok-right.right c.after.result
    c.try_use-2.new.state c.in-Ok.noted
    c.in-Ok.ensures c.in_ok-right.ensures.trial c.after.ensures
