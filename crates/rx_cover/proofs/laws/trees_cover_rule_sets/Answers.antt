use Rattle.rx_cover.proofs.CoveringLaws.{covers_all}
use Rattle.rx_cover.proofs.Example.{example_covered}
use Rattle.rx_cover.proofs.laws.trees_cover_rule_sets.Goals as goal

pub returns-clause-covered : goal.returns-clause-covered
returns-clause-covered c = λ parts lists all. covers_all parts lists all

pub returns-clause-example : goal.returns-clause-example
returns-clause-example c = example_covered
