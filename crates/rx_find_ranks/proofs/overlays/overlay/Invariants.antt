-- The first of the others are in their place.
use Rattle.std.proofs.Common.{◌≡◌, length, map}
use Rattle.rx_find_ranks.specs.Columns.{overlaid}
use Rattle.rx_find_ranks.proofs.overlays.overlay.Given as goal

abbrev pub invariant-loop-at : goal.invariant-loop-at
invariant-loop-at l = record {
  values : l.values.items ≡ overlaid l.fn.values.items (map (λ y. y.1) l.yielded);
  count : l.at-iterator.count ≡ length l.yielded;
}
