-- Those of the first pairs that stay, and those that fall.
use Rattle.std.proofs.Common.{◌≡◌}
use Rattle.rx_find_ranks.specs.Closing.{close_all, fallen, left_open}
use Rattle.rx_find_ranks.proofs.closing.close_fallen.Given as goal

abbrev pub invariant-loop-entry : goal.invariant-loop-entry
invariant-loop-entry l = record {
  staying : l.left.items ≡ left_open l.yielded;
  leaving : l.closed.items ≡ close_all l.column l.fn.closed.items (fallen l.yielded);
}
