-- None for the first symbols.
use Rattle.std.proofs.Common.{◌≡◌}
use Rattle.rx_anchors.specs.Values.{without_polynomials}
use Rattle.rx_anchors.proofs.values.without_polynomials.Given as goal

abbrev pub invariant-loop-symbol : goal.invariant-loop-symbol
invariant-loop-symbol l = l.values.items ≡ without_polynomials l._symbol
