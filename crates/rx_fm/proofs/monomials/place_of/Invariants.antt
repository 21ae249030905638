use Rattle.std.proofs.Common.{◌≡◌, ◌++◌, drop, take}
use Rattle.rx_fm.specs.Elimination.{with_mono}
use Rattle.rx_fm.proofs.monomials.place_of.Given as goal

abbrev pub invariant-loop-at : goal.invariant-loop-at
invariant-loop-at l =
    take l.at l.monos ++ with_mono l.mono (drop l.at l.monos) ≡ with_mono l.mono l.monos
