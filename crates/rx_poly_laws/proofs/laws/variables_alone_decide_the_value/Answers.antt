use Rattle.rx_poly_laws.proofs.Locality.{same_value_below}
use Rattle.rx_poly_laws.proofs.laws.variables_alone_decide_the_value.Goals as goal

pub returns-clause-below : goal.returns-clause-below
returns-clause-below c = λ a b n p agree below. same_value_below a b n p agree below
