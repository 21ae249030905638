use Rattle.rx_term.proofs.FittingLaws.{ground_fits}
use Rattle.rx_term.proofs.laws.fitting_terms_have_fitting_ground_terms.Goals as goal

pub returns : goal.returns
returns c = ground_fits
