-- What is left decides.
use Rattle.std.proofs.Common.{◌≡◌, drop}
use Rattle.std.specs.List.{list_all}
use Rattle.rx_match.specs.Settings.{is_set}
use Rattle.rx_match.proofs.unset.are_variables_set.Given as goal

abbrev pub invariant-loop-variable : goal.invariant-loop-variable
invariant-loop-variable l =
    list_all (is_set l.settings) (drop l.variable-index l.variable-items) ≡
    list_all (is_set l.settings) l.variable-items
