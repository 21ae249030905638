use Rattle.rx_poly.proofs.Unchanged.{same_form, all_within}
use Rattle.rx_poly_laws.proofs.laws.unchanged_variables_keep_the_polynomial.Goals as goal

pub returns-clause-same : goal.returns-clause-same
returns-clause-same c = same_form

pub returns-clause-within : goal.returns-clause-within
returns-clause-within c = all_within
