use Rattle.rx_check.proofs.Proofs.{kept_have_roots}
use Rattle.rx_check.proofs.laws.kept_hypotheses_have_roots.Goals as goal

pub returns : goal.returns
returns c = kept_have_roots
