-- The turn so far, and then the equations that are left, give all.
use Rattle.std.proofs.Common.{◌≡◌}
use Rattle.rx_shapes.specs.Kept.{met}
use Rattle.rx_shapes.specs.Options.{try_fold}
use Rattle.rx_shapes.proofs.TriedInOrder.{Trying}
use Rattle.rx_shapes.proofs.offering.met_all.Given as goal

abbrev pub invariant-loop-equation : goal.invariant-loop-equation
invariant-loop-equation g l = record {
  ready : g.E.Explores.ready l.explores;
  world : g.E.Explores.world l.explores ≡ g.E.Explores.world l.fn.explores;
  exact : Trying met l.turn l.equation-iterator.rest.items (try_fold met l.fn.turn l.fn.equations);
}
