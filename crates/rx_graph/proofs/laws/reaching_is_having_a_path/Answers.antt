use Rattle.rx_graph.proofs.GraphLaws.{reaches_all}
use Rattle.rx_graph.proofs.laws.reaching_is_having_a_path.Goals as goal

pub returns : goal.returns
returns c = reaches_all
