use Rattle.rx_term.proofs.TogetherLaws.{right_sides_fit, right_sides_fit_too}
use Rattle.rx_term.proofs.laws.fitting_right_sides_keep_fitting.Goals as goal

pub returns-clause-alone : goal.returns-clause-alone
returns-clause-alone c = right_sides_fit

pub returns-clause-together : goal.returns-clause-together
returns-clause-together c = right_sides_fit_too
