-- The shapes so far, and then those that are left, are all.
use Rattle.std.proofs.Common.{◌≡◌}
use Rattle.rx_shapes.specs.Kept.{offered, offered_all}
use Rattle.rx_shapes.proofs.TriedInOrder.{Trying}
use Rattle.rx_shapes.proofs.offering.offered_all.Given as goal

abbrev pub invariant-loop-shape : goal.invariant-loop-shape
invariant-loop-shape g l = record {
  ready : g.E.Explores.ready l.explores;
  world : g.E.Explores.world l.explores ≡ g.E.Explores.world l.fn.explores;
  exact : Trying (offered l.known) l.done l.shape-iterator.rest.items
      (offered_all l.known l.fn.turn);
}
