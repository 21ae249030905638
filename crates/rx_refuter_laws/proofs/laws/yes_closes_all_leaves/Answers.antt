-- Where rows are refuted, each side of each split is.
use Rattle.rx_refuter_laws.proofs.Closing.{closed_leaves}
use Rattle.rx_refuter_laws.proofs.laws.yes_closes_all_leaves.Goals as goal

pub returns : goal.returns
returns c = closed_leaves
