use Rattle.std.proofs.Common.{◌≡◌}
use Rattle.rx_fm.specs.Elimination.{negative, positive, without}
use Rattle.rx_fm.proofs.stage.split.Given as goal

abbrev pub invariant-loop-combination : goal.invariant-loop-combination
invariant-loop-combination l =
    (l.split.without ≡ without l.mono l.yielded) × (l.split.positive ≡ positive l.mono l.yielded) ×
    (l.split.negative ≡ negative l.mono l.yielded)
