-- What is left decides.
use Rattle.std.proofs.Common.{◌≡◌, drop}
use Rattle.rx_match.specs.Settings.{is_set}
use Rattle.rx_match.proofs.settings.is_set.Given as goal

abbrev pub invariant-loop-set : goal.invariant-loop-set
invariant-loop-set l =
    is_set (drop l.set-index l.settings) l.variable ≡ is_set l.settings l.variable
