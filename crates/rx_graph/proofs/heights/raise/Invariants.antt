-- The height is above those of the first n targets.
use Rattle.std.proofs.Common.{take}
use Rattle.rx_graph.specs.Ranked.{Raised}
use Rattle.rx_graph.proofs.heights.raise.Given as goal

abbrev pub invariant-loop-target : goal.invariant-loop-target
invariant-loop-target l =
    Raised (take l.target-index l.targets) l.labels l.own l.initial.heights l.heights
