use Rattle.rx_pairs.proofs.ListedLaws.{all_listed, only_all_listed, only_listed, pairs_listed}
use Rattle.rx_pairs.proofs.laws.pairs_are_listed.Goals as goal

pub returns-clause-rule : goal.returns-clause-rule
returns-clause-rule c = pairs_listed

pub returns-clause-rules : goal.returns-clause-rules
returns-clause-rules c = all_listed

pub returns-clause-only : goal.returns-clause-only
returns-clause-only c = only_listed

pub returns-clause-all_only : goal.returns-clause-all_only
returns-clause-all_only c = only_all_listed
