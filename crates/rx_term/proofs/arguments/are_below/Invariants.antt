use Rattle.std.proofs.Common.{◌≡◌, drop}
use Rattle.rx_term.specs.Variables.{polys_use_below}
use Rattle.rx_term.proofs.arguments.are_below.Given as goal

abbrev pub invariant-loop-arg : goal.invariant-loop-arg
invariant-loop-arg l =
    polys_use_below l.bound (drop l.arg-index l.args) ≡ polys_use_below l.bound l.args
