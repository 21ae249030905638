-- A pass that sets a variable leaves a row more without unset ones.
use Rattle.rx_match.proofs.ClosingLaws.{enough_passes}
use Rattle.rx_match.proofs.laws.as_many_passes_as_rows_are_enough.Goals as goal

pub returns : goal.returns
returns c = enough_passes
