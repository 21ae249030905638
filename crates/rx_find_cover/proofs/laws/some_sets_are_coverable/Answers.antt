-- Worked cases.
use Rattle.rx_find_cover.proofs.Examples.{bare_not_coverable, example_coverable, splits_by_first, then_by_none}
use Rattle.rx_find_cover.proofs.laws.some_sets_are_coverable.Goals as goal

pub returns-clause-coverable : goal.returns-clause-coverable
returns-clause-coverable c = example_coverable

pub returns-clause-uncovered : goal.returns-clause-uncovered
returns-clause-uncovered c = bare_not_coverable

pub returns-clause-split : goal.returns-clause-split
returns-clause-split c = splits_by_first

pub returns-clause-no_split : goal.returns-clause-no_split
returns-clause-no_split c = then_by_none
