-- One place after the other.
use Rattle.rx_poly.specs.Constants.{variable}
use Rattle.rx_relations.proofs.Ranges.{next_mapped}
use Rattle.rx_relations.proofs.linear.linear_basis.Goals as goal

pub loop-place-preserved : goal.loop-place-preserved
loop-place-preserved c =
    next_mapped variable c.loop-place.basis c.push_variable.new.basis _ c.loop-place.place
    c.args.count c.loop-place-test.true c.loop-place.invariant c.in_ok-push_variable.ensures
