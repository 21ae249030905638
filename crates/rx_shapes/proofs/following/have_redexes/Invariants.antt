-- What is left decides.
use Rattle.std.proofs.Common.{◌≡◌, drop}
use Rattle.std.specs.List.{list_all}
use Rattle.rx_shapes.specs.Following.{has_redex}
use Rattle.rx_shapes.proofs.following.have_redexes.Given as goal

abbrev pub invariant-loop-side : goal.invariant-loop-side
invariant-loop-side l =
    list_all (has_redex l.equation) (drop l.side-index l.task) ≡ list_all (has_redex l.equation) l.task
