-- Those so far, and those of the arguments that are left.
use Rattle.std.proofs.Common.{◌≡◌, ◌++◌, drop}
use Rattle.rx_wider_domains.specs.Places.{places, places_from}
use Rattle.rx_wider_domains.proofs.places.find_places.Given as goal

abbrev pub invariant-loop-place : goal.invariant-loop-place
invariant-loop-place l =
    l.found.items ++ places_from l.place (drop l.place l.args) ≡ places l.args
