-- The first targets are marked.
use Rattle.std.proofs.Common.{take}
use Rattle.rx_graph.specs.Marks.{Marked}
use Rattle.rx_graph.proofs.reach.mark.Given as goal

abbrev pub invariant-loop-target : goal.invariant-loop-target
invariant-loop-target l =
    Marked l.initial.marks.items l.initial.reached.items (take l.target-index l.targets)
    l.marks.items l.reached.items
