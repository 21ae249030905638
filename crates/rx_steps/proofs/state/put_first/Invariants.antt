use Rattle.std.proofs.Common.{◌≡◌, ◌+◌, ◌≤◌, ◌++◌, length, reverse, vec_capacity, vec_len}
use Rattle.rx_steps.proofs.state.put_first.Given as goal

abbrev pub invariant-loop-goal : goal.invariant-loop-goal
invariant-loop-goal l = record {
  moved : l.goals.items ++ reverse l.onto.items ≡ l.fn.goals.items ++ reverse l.fn.onto.items;
  room : vec_len l.onto + length l.goals.items ≤ vec_capacity l.onto;
}

abbrev pub decreases-loop-goal : goal.decreases-loop-goal
decreases-loop-goal l = length l.goals.items
