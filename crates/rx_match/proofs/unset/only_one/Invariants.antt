-- What is left decides.
use Rattle.std.proofs.Common.{◌≡◌, ◌==◌, drop}
use Rattle.std.specs.List.{list_all}
use Rattle.rx_match.proofs.unset.only_one.Given as goal

abbrev pub invariant-loop-other : goal.invariant-loop-other
invariant-loop-other l =
    list_all (λ y. y == l.first) (drop l.other-index l.others) ≡
    list_all (λ y. y == l.first) l.others
