-- None of those before is, so the rest decides.
use Rattle.std.proofs.Common.{◌≡◌, drop}
use Rattle.std.specs.List.{list_any}
use Rattle.rx_shapes.specs.Kept.{has_remainders}
use Rattle.rx_shapes.proofs.turning.have_remainders.Given as goal

abbrev pub invariant-loop-equation : goal.invariant-loop-equation
invariant-loop-equation l =
    list_any (has_remainders l.shapes) (drop l.equation-index l.equations) ≡
    list_any (has_remainders l.shapes) l.equations
