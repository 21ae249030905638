-- Those so far, and then those of the variables that are left, are all.
use Rattle.std.proofs.Common.{◌≡◌, ◌++◌, drop}
use Rattle.std.specs.Prelude.{filter, not}
use Rattle.rx_match.specs.Settings.{is_set}
use Rattle.rx_match.proofs.unset.unset_in.Given as goal

abbrev pub invariant-loop-variable : goal.invariant-loop-variable
invariant-loop-variable l =
    l.unset.items ++ filter (λ x. not (is_set l.settings x))
    (drop l.variable-index l.variable-items) ≡
    filter (λ x. not (is_set l.settings x)) l.variable-items
