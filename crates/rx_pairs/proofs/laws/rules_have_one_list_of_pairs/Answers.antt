use Rattle.rx_pairs.proofs.PairsLaws.{one_all, one_pairs, some_all, some_pairs}
use Rattle.rx_pairs.proofs.laws.rules_have_one_list_of_pairs.Goals as goal

pub returns-clause-some : goal.returns-clause-some
returns-clause-some c = some_pairs

pub returns-clause-one : goal.returns-clause-one
returns-clause-one c = one_pairs

pub returns-clause-all_have : goal.returns-clause-all_have
returns-clause-all_have c = some_all

pub returns-clause-all_one : goal.returns-clause-all_one
returns-clause-all_one c = one_all
