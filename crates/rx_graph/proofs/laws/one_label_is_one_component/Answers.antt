use Rattle.rx_graph.proofs.ComponentLaws.{same_together}
use Rattle.rx_graph.proofs.GraphLaws.{lead_below}
use Rattle.rx_graph.proofs.laws.one_label_is_one_component.Goals as goal

pub returns : goal.returns
returns c =
    λ n edges over labels components. same_together n edges (lead_below n edges over) labels
    components
