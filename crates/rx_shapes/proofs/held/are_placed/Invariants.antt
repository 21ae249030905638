-- What is left decides.
use Rattle.std.proofs.Common.{◌≡◌, drop}
use Rattle.std.specs.List.{list_all}
use Rattle.rx_poly.specs.Variables.{is_one_of}
use Rattle.rx_shapes.specs.GoalBounds.{placed}
use Rattle.rx_shapes.proofs.held.are_placed.Given as goal

abbrev pub invariant-loop-variable : goal.invariant-loop-variable
invariant-loop-variable l =
    list_all (λ v. is_one_of v (placed l.placed)) (drop l.variable-index l.variables) ≡
    list_all (λ v. is_one_of v (placed l.placed)) l.variables
