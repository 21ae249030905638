use Rattle.std.proofs.Common.{◌≡◌}
use Rattle.rx_settle.proofs.step_lists.shared_steps.Given as goal

abbrev pub invariant-loop-step : goal.invariant-loop-step
invariant-loop-step l = l.made ≡ l.yielded
