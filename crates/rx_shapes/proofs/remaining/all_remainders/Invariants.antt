-- Those so far, and then those that are left, are all.
use Rattle.std.proofs.Common.{◌≡◌, ◌++◌, drop}
use Rattle.rx_shapes.specs.Remainders.{all_remainders}
use Rattle.rx_shapes.proofs.remaining.all_remainders.Given as goal

abbrev pub invariant-loop-division : goal.invariant-loop-division
invariant-loop-division l =
    l.made ++ all_remainders (drop l.division-index l.divisions) ≡ all_remainders l.divisions
