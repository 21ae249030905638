-- The tally of the first examples so far.
use Rattle.std.proofs.Common.{◌≤◌}
use Rattle.rx_cli.specs.Examples.{IsTally}
use Rattle.rx_cli.proofs.examples.count_proved.Given as goal

abbrev pub invariant-loop-number : goal.invariant-loop-number
invariant-loop-number l = record {
  is : IsTally l.number l.tally;
  few : l.tally.equivalent ≤ l.number;
}
