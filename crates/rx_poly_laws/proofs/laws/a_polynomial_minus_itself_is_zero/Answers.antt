use Rattle.std.proofs.Common.{◌∙◌, ap}
use Rattle.rx_poly.specs.Limits.{is_within}
use Rattle.rx_poly_laws.proofs.SumCoefficients.{minus_itself, zero_within}
use Rattle.rx_poly_laws.proofs.laws.a_polynomial_minus_itself_is_zero.Goals as goal

pub returns-clause-same : goal.returns-clause-same
returns-clause-same c = minus_itself

pub returns-clause-within : goal.returns-clause-within
returns-clause-within c = λ p h. ap is_within (minus_itself p h) ∙ zero_within
