-- None for the first symbols.
use Rattle.std.proofs.Common.{◌≡◌, List}
use Rattle.rx_poly.specs.declared.body.Body.{Body}
use Rattle.rx_anchors.specs.Values.{without_polynomials}
use Rattle.rx_rank.specs.Numbers.{by_numbers}
use Rattle.rx_rank.proofs.quick.without_numbers.Given as goal

abbrev pub invariant-loop-symbol : goal.invariant-loop-symbol
invariant-loop-symbol l =
    (polys : List Body) → by_numbers polys l.values.items ≡ without_polynomials l._symbol
