use Rattle.rx_term.proofs.KeepingLaws.{shape_in_term, fits_in_term}
use Rattle.rx_term.proofs.laws.substitution_keeps_the_stack.Goals as goal

pub returns-clause-shape : goal.returns-clause-shape
returns-clause-shape c = shape_in_term

pub returns-clause-fits : goal.returns-clause-fits
returns-clause-fits c = fits_in_term
