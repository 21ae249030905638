use Rattle.std.proofs.Common.{◌≡◌, drop}
use Rattle.rx_fm.specs.Elimination.{eliminate}
use Rattle.rx_fm.proofs.elimination.eliminated.Given as goal

abbrev pub invariant-loop-mono : goal.invariant-loop-mono
invariant-loop-mono l =
    eliminate l.limit (drop l.mono-index l.monos) l.standing ≡
    eliminate l.limit l.monos l.fn.given
