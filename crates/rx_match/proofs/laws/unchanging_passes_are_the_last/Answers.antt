-- By induction on how many there are.
use Rattle.rx_match.proofs.PassLaws.{unchanging}
use Rattle.rx_match.proofs.laws.unchanging_passes_are_the_last.Goals as goal

pub returns : goal.returns
returns c = unchanging
