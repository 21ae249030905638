-- Rows that are shown have certificates.
use Rattle.rx_solve.proofs.Found.{shown_hold}
use Rattle.rx_solve.proofs.laws.shown_rows_hold.Goals as goal

pub returns : goal.returns
returns c = shown_hold
