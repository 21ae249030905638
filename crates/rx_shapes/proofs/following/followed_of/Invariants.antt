-- Those kept so far, and then those of the equations that are left, are all.
use Rattle.std.proofs.Common.{◌≡◌, ◌++◌}
use Rattle.rx_shapes.specs.Following.{followed_of}
use Rattle.rx_shapes.proofs.following.followed_of.Given as goal

abbrev pub invariant-loop-equation : goal.invariant-loop-equation
invariant-loop-equation l =
    l.kept ++ followed_of l.shapes l.equation-iterator.rest.items ≡
    followed_of l.shapes l.fn.equations
