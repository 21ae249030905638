use Rattle.std.proofs.Common.{◌≡◌, ◌≤◌, ◌+◌, ◌*◌, ◌^◌}
use Rattle.c_refute.proofs.points.number_of_points.Given as goal

abbrev pub invariant-loop : goal.invariant-loop
invariant-loop l = (l.number ≡ (2 * l.fn.side + 1) ^ l.counter) × (l.number ≤ 1000000)
