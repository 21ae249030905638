-- What is added so far, and then for the values that are left, is all.
use Rattle.std.proofs.Common.{◌≡◌, drop}
use Rattle.rx_shapes.specs.Numbers.{with_numbers}
use Rattle.rx_shapes.proofs.numbers.push_numbers.Given as goal

abbrev pub invariant-loop-place : goal.invariant-loop-place
invariant-loop-place l =
    with_numbers l.place l.rows (drop l.place l.values) ≡ with_numbers 0 l.fn.rows l.values
