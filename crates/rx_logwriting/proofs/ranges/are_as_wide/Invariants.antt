use Rattle.std.proofs.Common.{◌≡◌, ◌==◌, true, take, List, length}
use Rattle.std.specs.List.{list_all}
use Rattle.rx_poly.specs.declared.body.Body.{Body}
use Rattle.rx_logwriting.proofs.ranges.are_as_wide.Given as goal

abbrev pub invariant-loop-rank : goal.invariant-loop-rank
invariant-loop-rank l =
    list_all (λ (rank : List Body). length rank == l.columns) (take l.rank-index l.ranks) ≡ true
