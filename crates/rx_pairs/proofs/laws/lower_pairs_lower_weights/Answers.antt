use Rattle.rx_pairs.proofs.InsideLaws.{bounded_descend}
use Rattle.rx_pairs.proofs.Lowered.{instances_descend}
use Rattle.rx_pairs.proofs.laws.lower_pairs_lower_weights.Goals as goal

pub returns-clause-instances : goal.returns-clause-instances
returns-clause-instances c =
    λ parts rules table whole pairs certs good are descends fit s t one. instances_descend parts
    table good rules whole pairs certs are descends fit s t one

pub returns-clause-steps : goal.returns-clause-steps
returns-clause-steps c =
    λ parts hypotheses table certs made roots fit good descends. bounded_descend parts hypotheses
    table certs made roots fit good descends
