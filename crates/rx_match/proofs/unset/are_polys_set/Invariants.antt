-- What is left decides.
use Rattle.std.proofs.Common.{◌≡◌, drop}
use Rattle.rx_match.specs.Settings.{is_set}
use Rattle.rx_match.specs.Variables.{polys_pass}
use Rattle.rx_match.proofs.unset.are_polys_set.Given as goal

abbrev pub invariant-loop-poly : goal.invariant-loop-poly
invariant-loop-poly l =
    polys_pass (is_set l.settings) (drop l.poly-index l.polys) ≡
    polys_pass (is_set l.settings) l.polys
