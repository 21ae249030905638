use Rattle.std.proofs.Common.{◌≡◌, ◌++◌, drop, length}
use Rattle.rx_fm.specs.Elimination.{given, given_from}
use Rattle.rx_fm.proofs.elimination.given.Given as goal

abbrev pub invariant-loop-place : goal.invariant-loop-place
invariant-loop-place l =
    l.made ++ given_from l.place (length l.polys) (drop l.place l.polys) ≡ given l.polys
