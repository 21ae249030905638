-- The equations found so far, and then those of the transitions that are left, are all.
use Rattle.std.proofs.Common.{drop}
use Rattle.rx_shapes.proofs.TriedInOrder.{Trying}
use Rattle.test_relations.specs.Leading.{led, with_transition}
use Rattle.test_relations.proofs.systems.led.Given as goal

abbrev pub invariant-loop-transition : goal.invariant-loop-transition
invariant-loop-transition l =
    Trying (with_transition l.goal) l.found (drop l.transition-index l.transitions)
    (led l.transitions l.task l.goal)
