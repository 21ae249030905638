-- What is left of the polynomials decides.
use Rattle.std.proofs.Common.{◌≡◌, drop}
use Rattle.std.specs.List.{list_any}
use Rattle.rx_poly.specs.contracts.body.BodyPartialEq.TheImpl as body_equal
use Rattle.rx_rank.proofs.candidates.is_one_of.Given as goal

abbrev pub invariant-loop-other : goal.invariant-loop-other
invariant-loop-other l =
    list_any (λ q. (body_equal.ghosts).eq q l.poly) (drop l.other-index l.polys) ≡
    list_any (λ q. (body_equal.ghosts).eq q l.poly) l.polys
