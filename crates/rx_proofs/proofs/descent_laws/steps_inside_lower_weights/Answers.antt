use Rattle.rx_proofs.proofs.InsideDescent.{inside_descend}
use Rattle.rx_proofs.proofs.descent_laws.steps_inside_lower_weights.Goals as goal

pub returns : goal.returns
returns c = inside_descend
