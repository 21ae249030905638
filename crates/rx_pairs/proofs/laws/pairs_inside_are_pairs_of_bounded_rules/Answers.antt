use Rattle.rx_pairs.proofs.InsideLaws.{listing_none, whole_listed}
use Rattle.rx_pairs.proofs.laws.pairs_inside_are_pairs_of_bounded_rules.Goals as goal

pub returns-clause-listed : goal.returns-clause-listed
returns-clause-listed c = whole_listed

pub returns-clause-without : goal.returns-clause-without
returns-clause-without c = λ parts rules none. listing_none parts none rules
