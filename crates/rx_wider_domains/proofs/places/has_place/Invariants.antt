-- What is left decides.
use Rattle.std.proofs.Common.{◌≡◌, drop}
use Rattle.rx_poly.specs.Variables.{is_one_of}
use Rattle.rx_wider_domains.specs.Places.{placed}
use Rattle.rx_wider_domains.proofs.places.has_place.Given as goal

abbrev pub invariant-loop-other : goal.invariant-loop-other
invariant-loop-other l =
    is_one_of l.variable (placed (drop l.other-index l.places))
    ≡ is_one_of l.variable (placed l.places)
