-- None of those so far is it, so the rest decides.
use Rattle.std.proofs.Common.{◌≡◌, drop}
use Rattle.std.specs.List.{list_any}
use Rattle.rx_poly.specs.contracts.body.BodyPartialEq.TheImpl as body_equal
use Rattle.rx_relations.specs.declared.divisions.Division.{Division}
use Rattle.rx_relations.proofs.divisions.is_among.Given as goal

abbrev pub invariant-loop-other : goal.invariant-loop-other
invariant-loop-other l =
    list_any (λ (d : Division). (body_equal.ghosts).eq d.quotient l.quotient)
    (drop l.other-index l.known) ≡
    list_any (λ (d : Division). (body_equal.ghosts).eq d.quotient l.quotient) l.known
