use Rattle.std.proofs.Common.{◌≡◌}
use Rattle.rx_steps.proofs.state.shared_goals.Given as goal

abbrev pub invariant-loop-goal : goal.invariant-loop-goal
invariant-loop-goal l = l.made.items ≡ l.yielded
