use Rattle.rx_proofs.proofs.Example.{example_proof, hypothesis_used}
use Rattle.rx_proofs.proofs.InsideExample.{bounded_proof}
use Rattle.rx_proofs.proofs.laws.the_premises_can_be_met.Goals as goal

pub returns-clause-proof : goal.returns-clause-proof
returns-clause-proof c = example_proof

pub returns-clause-inside : goal.returns-clause-inside
returns-clause-inside c = bounded_proof

pub returns-clause-used : goal.returns-clause-used
returns-clause-used c = hypothesis_used
