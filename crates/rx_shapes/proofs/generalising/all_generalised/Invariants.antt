-- Those so far, and then those that are left, are all.
use Rattle.std.proofs.Common.{◌≡◌}
use Rattle.rx_shapes.specs.Generalising.{first_generalised}
use Rattle.rx_shapes.specs.Options.{try_map, with_next}
use Rattle.rx_shapes.proofs.TriedInOrder.{Trying}
use Rattle.rx_shapes.proofs.generalising.all_generalised.Given as goal

abbrev pub invariant-loop-shape : goal.invariant-loop-shape
invariant-loop-shape g l = record {
  ready : g.E.Explores.ready l.explores;
  world : g.E.Explores.world l.explores ≡ g.E.Explores.world l.fn.explores;
  exact : Trying (with_next first_generalised) l.done l.shape-iterator.rest.items
      (try_map first_generalised l.fn.shapes);
}
