use Rattle.rx_poly_laws.proofs.SumCoefficients.{coefficient-body_sum, coefficient-body_difference, coefficient-scaled_by}
use Rattle.rx_poly_laws.proofs.laws.coefficients_are_combined_one_by_one.Goals as goal

pub returns-clause-sum : goal.returns-clause-sum
returns-clause-sum c = coefficient-body_sum

pub returns-clause-difference : goal.returns-clause-difference
returns-clause-difference c = coefficient-body_difference

pub returns-clause-multiple : goal.returns-clause-multiple
returns-clause-multiple c = coefficient-scaled_by
