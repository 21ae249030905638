use Rattle.rx_inference.proofs.FormingLaws.{formed_bare}
use Rattle.rx_inference.proofs.laws.certificates_are_not_looked_at.Goals as goal

pub returns : goal.returns
returns c = λ parts goal hypotheses step. formed_bare parts hypotheses goal step
