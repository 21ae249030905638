-- Those kept so far, and then those of the rows that are left, are all.
use Rattle.std.proofs.Common.{◌≡◌, ◌++◌, drop}
use Rattle.rx_shapes.specs.Shown.{shown_at}
use Rattle.rx_shapes.proofs.shown.shown_at.Given as goal

abbrev pub invariant-loop-row : goal.invariant-loop-row
invariant-loop-row g l = record {
  ready : g.E.Explores.ready l.explores;
  world : g.E.Explores.world l.explores ≡ g.E.Explores.world l.fn.explores;
  exact : l.kept ++ shown_at l.goal (drop l.row-index l.rows) ≡ shown_at l.goal l.rows;
}
