-- The left side, or else the right one.
use Rattle.rx_inference.specs.declared.step.Side.TheVariants.{Left, Right}
use Rattle.rx_moves.specs.Unfolding.{leaving_side}
use Rattle.rx_moves.proofs.FoundLaws.{two_first, two_second}
use Rattle.rx_moves.proofs.sides.find_leaving.Goals as goal

pub returns-in-Err-clause-found : goal.returns-in-Err-clause-found
returns-in-Err-clause-found g c = λ state first.
    two_first c.args.rules.now state (leaving_side c.args.rules.now state Left c.args.goal.now)
    c.in_ok-left.left (c.in_ok-left.ensures.found state first)
    (leaving_side c.args.rules.now state Right c.args.goal.now) c.in-Err.found c.in-Err.ensures

pub returns-clause-found : goal.returns-clause-found
returns-clause-found g c = λ state first.
    two_second c.args.rules.now state (leaving_side c.args.rules.now state Left c.args.goal.now)
    c.in_ok-left.left (c.in_ok-left.ensures.found state first)
    (leaving_side c.args.rules.now state Right c.args.goal.now) c.in_ok-right.right c.after.result
    c.in-Ok.noted c.in-Ok.ensures (c.in_ok-right.ensures.found state first) c.after.ensures
