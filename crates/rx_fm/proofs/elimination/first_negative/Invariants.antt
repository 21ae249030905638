use Rattle.std.proofs.Common.{◌≡◌, drop}
use Rattle.rx_fm.specs.Elimination.{first_negative}
use Rattle.rx_fm.proofs.elimination.first_negative.Given as goal

abbrev pub invariant-loop-combination : goal.invariant-loop-combination
invariant-loop-combination l =
    first_negative (drop l.combination-index l.combinations) ≡ first_negative l.combinations
