use Rattle.rx_graph.proofs.HeightLaws.{one_height}
use Rattle.rx_graph.proofs.laws.heights_are_determined.Goals as goal

pub returns : goal.returns
returns c = one_height
