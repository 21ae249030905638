use Rattle.rx_pairs.proofs.PairsLaws.{made_roots}
use Rattle.rx_pairs.proofs.laws.well_made_rules_have_roots.Goals as goal

pub returns : goal.returns
returns c = λ parts made. made_roots parts parts.rules made
