-- Those of the first pairs that stay, and those that leave.
use Rattle.std.proofs.Common.{◌≡◌}
use Rattle.std.specs.List.{filter}
use Rattle.rx_find_ranks.specs.Closing.{close_all}
use Rattle.rx_find_ranks.specs.Between.{is_leaving, is_staying}
use Rattle.rx_find_ranks.proofs.heights.close_between.Given as goal

abbrev pub invariant-loop-entry : goal.invariant-loop-entry
invariant-loop-entry l = record {
  staying : l.left.items ≡ filter (is_staying l.names) l.yielded;
  leaving : l.closed.items ≡ close_all l.column l.fn.closed.items
      (filter (is_leaving l.names) l.yielded);
}
