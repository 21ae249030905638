use Rattle.std.proofs.Common.{◌≡◌, ◌++◌, ◌-◌, map}
use Rattle.std.specs.List.{range_with_len}
use Rattle.rx_poly.specs.Constants.{variable}
use Rattle.rx_relations.specs.Linear.{linear_basis}
use Rattle.rx_relations.proofs.linear.linear_basis.Given as goal

abbrev pub invariant-loop-place : goal.invariant-loop-place
invariant-loop-place l =
    l.basis ++ map variable (range_with_len l.place (l.count - l.place)) ≡ linear_basis l.count
