use Rattle.rx_agreement.proofs.Bounds.{bounds_hold}
use Rattle.rx_agreement.proofs.laws.bounds_hold.Goals as goal

pub returns : goal.returns
returns c = λ integers rows arguments. bounds_hold integers rows arguments
