use Rattle.rx_poly_laws.proofs.InstanceVariables.{instance_passes}
use Rattle.rx_poly_laws.proofs.laws.instances_have_the_variables_of_their_replacements.Goals as goal

pub returns : goal.returns
returns c = instance_passes
