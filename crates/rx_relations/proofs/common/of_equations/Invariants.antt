use Rattle.std.proofs.Common.{◌≡◌, ◌++◌, drop, map}
use Rattle.rx_relations.specs.Common.{of_equation}
use Rattle.rx_relations.proofs.common.of_equations.Given as goal

abbrev pub invariant-loop-equation : goal.invariant-loop-equation
invariant-loop-equation l =
    l.made ++ map of_equation (drop l.equation-index l.equations) ≡ map of_equation l.equations
