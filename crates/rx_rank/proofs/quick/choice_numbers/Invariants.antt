-- The numbers so far, and those of the symbols that are left.
use Rattle.std.proofs.Common.{◌≡◌, drop, length}
use Rattle.rx_anchors.specs.Values.{polys_at, with_choice, without_polynomials}
use Rattle.rx_rank.specs.Numbers.{by_numbers}
use Rattle.rx_rank.proofs.quick.choice_numbers.Given as goal

abbrev pub invariant-loop-at : goal.invariant-loop-at
invariant-loop-at l =
    with_choice (by_numbers l.numbered.polys l.values.items) (drop l.at l.problem.anchors.now)
    (polys_at (drop l.at l.choice)) ≡
    with_choice (without_polynomials (length l.problem.infos.now)) l.problem.anchors.now
    (polys_at l.choice)
