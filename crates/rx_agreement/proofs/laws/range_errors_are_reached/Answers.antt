use Rattle.rx_agreement.proofs.RangeExample.{example_scoped, example_translated, greatest_integer, inside, outside, range_error}
use Rattle.rx_agreement.proofs.laws.range_errors_are_reached.Goals as goal

pub returns-clause-scoped : goal.returns-clause-scoped
returns-clause-scoped c = example_scoped

pub returns-clause-translated : goal.returns-clause-translated
returns-clause-translated c = example_translated

pub returns-clause-returned : goal.returns-clause-returned
returns-clause-returned c = inside

pub returns-clause-reached : goal.returns-clause-reached
returns-clause-reached c = greatest_integer

pub returns-clause-beyond : goal.returns-clause-beyond
returns-clause-beyond c = outside

pub returns-clause-failed : goal.returns-clause-failed
returns-clause-failed c = range_error
