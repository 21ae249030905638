use Rattle.rx_poly_laws.proofs.SameInstance.{same_instance}
use Rattle.rx_poly_laws.proofs.laws.an_instance_depends_on_what_its_variables_are_replaced_by.Goals as goal

pub returns : goal.returns
returns c = same_instance
