-- One place after the other.
use Rattle.std.proofs.Common.{not}
use Rattle.rx_poly.specs.Variables.{is_one_of}
use Rattle.rx_relations.proofs.Ranges.{next_filtered}
use Rattle.rx_relations.proofs.products.free_places.Goals as goal

pub loop-place-preserved : goal.loop-place-preserved
loop-place-preserved c =
    next_filtered (λ i. not (is_one_of i c.args.given.now)) c.loop-place.free c.push_free.new.free _
    c.loop-place.place c.args.count c.loop-place-test.true c.loop-place.invariant
    c.in_ok-push_free.ensures
