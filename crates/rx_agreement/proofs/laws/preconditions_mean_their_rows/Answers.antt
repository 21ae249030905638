use Rattle.rx_agreement.proofs.Preconditions.{means_its_rows}
use Rattle.rx_agreement.proofs.laws.preconditions_mean_their_rows.Goals as goal

pub returns : goal.returns
returns c = λ program pre arguments is. means_its_rows program pre arguments is
