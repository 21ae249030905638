use Rattle.std.proofs.Common.{◌≡◌, drop}
use Rattle.rx_poly.specs.Variables.{is_one_of}
use Rattle.rx_relations.proofs.products.is_one_of.Given as goal

abbrev pub invariant-loop-other : goal.invariant-loop-other
invariant-loop-other l =
    is_one_of l.place (drop l.other-index l.places) ≡ is_one_of l.place l.places
