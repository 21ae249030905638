use Rattle.std.proofs.Common.{◌≡◌}
use Rattle.rx_term.specs.WellMade.{variables_from}
use Rattle.rx_translate.proofs.goal.first_variables.Given as goal

abbrev pub invariant-loop-at : goal.invariant-loop-at
invariant-loop-at l = l.variables ≡ variables_from 0 l.at
