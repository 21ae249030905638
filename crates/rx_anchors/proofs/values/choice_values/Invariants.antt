-- The polynomials so far, and those of the symbols that are left.
use Rattle.std.proofs.Common.{◌≡◌, drop}
use Rattle.rx_anchors.specs.Values.{polys_at, with_choice, without_polynomials}
use Rattle.rx_anchors.proofs.values.choice_values.Given as goal

abbrev pub invariant-loop-at : goal.invariant-loop-at
invariant-loop-at l =
    with_choice l.values.items (drop l.at l.anchors) (polys_at (drop l.at l.choice)) ≡
    with_choice (without_polynomials l.symbols) l.anchors (polys_at l.choice)
