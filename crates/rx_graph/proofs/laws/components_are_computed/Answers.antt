use Rattle.rx_graph.proofs.GraphLaws.{lead_below}
use Rattle.rx_graph.proofs.LabelLaws.{labels_computed}
use Rattle.rx_graph.proofs.laws.components_are_computed.Goals as goal

pub returns : goal.returns
returns c =
    λ n edges over labels count components. labels_computed n edges (lead_below n edges over) labels
    count components
