-- The equations found so far, and then those of the equations that are left, are all.
use Rattle.std.proofs.Common.{◌≡◌, drop}
use Rattle.rx_shapes.specs.Kept.{descended, descended_all}
use Rattle.rx_shapes.proofs.TriedInOrder.{Trying}
use Rattle.rx_shapes.proofs.gathering.descended_all.Given as goal

abbrev pub invariant-loop-equation : goal.invariant-loop-equation
invariant-loop-equation g l = record {
  ready : g.E.Explores.ready l.explores;
  world : g.E.Explores.world l.explores ≡ g.E.Explores.world l.fn.explores;
  exact : Trying (descended (g.E.Explores.found (g.E.Explores.world l.fn.explores)) l.shapes)
      l.found (drop l.equation-index l.equations)
      (descended_all (g.E.Explores.found (g.E.Explores.world l.fn.explores)) l.shapes l.equations);
}
