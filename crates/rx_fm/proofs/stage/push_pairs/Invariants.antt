use Rattle.std.proofs.Common.{◌≡◌, ◌++◌, drop, int_lt, pos, true}
use Rattle.std.specs.List.{list_all}
use Rattle.rx_fm.specs.Elimination.{at, pairs, pairs_within}
use Rattle.rx_fm.proofs.stage.push_pairs.Given as goal

abbrev pub invariant-loop-first : goal.invariant-loop-first
invariant-loop-first l =
    (l.made ++ pairs l.mono (drop l.first-index l.firsts) l.seconds ≡ l.fn.made ++
    pairs l.mono l.firsts l.seconds)
    × (pairs_within l.mono (drop l.first-index l.firsts) l.seconds ≡
    pairs_within l.mono l.firsts l.seconds)
    × (list_all (λ c. int_lt (pos 0) (at l.mono c)) (drop l.first-index l.firsts) ≡ true)
