-- What is left decides.
use Rattle.std.proofs.Common.{◌≡◌, drop}
use Rattle.std.specs.List.{list_all}
use Rattle.rx_shapes.specs.Shown.{shows}
use Rattle.rx_shapes.proofs.shown.shows_all.Given as goal

abbrev pub invariant-loop-row : goal.invariant-loop-row
invariant-loop-row g l = record {
  ready : g.E.Explores.ready l.explores;
  world : g.E.Explores.world l.explores ≡ g.E.Explores.world l.fn.explores;
  exact : list_all (shows l.goal) (drop l.row-index l.rows) ≡ list_all (shows l.goal) l.rows;
}
