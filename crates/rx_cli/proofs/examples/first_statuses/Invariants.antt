-- The statuses of the first examples so far.
use Rattle.std.proofs.Common.{◌≡◌, length}
use Rattle.rx_cli.specs.Examples.{AreStatuses}
use Rattle.rx_cli.proofs.examples.first_statuses.Given as goal

abbrev pub invariant-loop-number : goal.invariant-loop-number
invariant-loop-number l = record {
  count : length l.statuses.items ≡ l.number;
  are : AreStatuses l.statuses.items;
}
