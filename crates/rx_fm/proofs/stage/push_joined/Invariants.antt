use Rattle.std.proofs.Common.{◌≡◌, ◌++◌, drop, int_lt, map, pos, true}
use Rattle.std.specs.List.{list_all}
use Rattle.rx_fm.specs.Elimination.{at, resolvent, resolvent_within}
use Rattle.rx_fm.proofs.stage.push_joined.Given as goal

abbrev pub invariant-loop-second : goal.invariant-loop-second
invariant-loop-second l =
    (l.made ++ map (resolvent l.mono l.first) (drop l.second-index l.seconds) ≡ l.fn.made ++
    map (resolvent l.mono l.first) l.seconds)
    × (list_all (resolvent_within l.mono l.first) (drop l.second-index l.seconds) ≡
    list_all (resolvent_within l.mono l.first) l.seconds)
    × (list_all (λ c. int_lt (at l.mono c) (pos 0)) (drop l.second-index l.seconds) ≡ true)
