use Rattle.rx_term.proofs.KeepingLaws.{fits_after, fits_replaced}
use Rattle.rx_term.proofs.laws.replacing_keeps_fitting.Goals as goal

pub returns-clause-after : goal.returns-clause-after
returns-clause-after c = fits_after

pub returns-clause-replaced : goal.returns-clause-replaced
returns-clause-replaced c = fits_replaced
