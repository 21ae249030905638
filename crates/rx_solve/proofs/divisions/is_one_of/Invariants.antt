-- None of those so far is it, so the rest decides.
use Rattle.std.proofs.Common.{◌≡◌, drop}
use Rattle.std.specs.List.{list_any}
use Rattle.rx_solve.specs.Divisions.{same_ratio}
use Rattle.rx_solve.proofs.divisions.is_one_of.Given as goal

abbrev pub invariant-loop-other : goal.invariant-loop-other
invariant-loop-other l =
    list_any (λ c. same_ratio c l.ratio) (drop l.other-index l.known) ≡
    list_any (λ c. same_ratio c l.ratio) l.known
