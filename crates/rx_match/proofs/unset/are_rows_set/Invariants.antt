-- What is left decides.
use Rattle.std.proofs.Common.{◌≡◌, drop}
use Rattle.rx_cert.specs.Variables.{rows_pass}
use Rattle.rx_match.specs.Settings.{is_set}
use Rattle.rx_match.proofs.unset.are_rows_set.Given as goal

abbrev pub invariant-loop-row : goal.invariant-loop-row
invariant-loop-row l =
    rows_pass (is_set l.settings) (drop l.row-index l.rows) ≡ rows_pass (is_set l.settings) l.rows
