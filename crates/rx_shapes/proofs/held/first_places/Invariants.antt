-- Those so far, and then those that are left, are all.
use Rattle.std.proofs.Common.{◌≡◌, [], drop}
use Rattle.rx_shapes.specs.GoalBounds.{places_from}
use Rattle.rx_shapes.proofs.held.first_places.Given as goal

abbrev pub invariant-loop-place : goal.invariant-loop-place
invariant-loop-place l =
    places_from l.place l.placed.items (drop l.place l.polys) ≡ places_from 0 [] l.polys
