use Rattle.rx_agreement.proofs.Example.{between_is_row_form, division_error, example_scoped, example_translated, returned_integer}
use Rattle.rx_agreement.proofs.laws.the_premises_can_be_met.Goals as goal

pub returns-clause-scoped : goal.returns-clause-scoped
returns-clause-scoped c = example_scoped

pub returns-clause-translated : goal.returns-clause-translated
returns-clause-translated c = example_translated

pub returns-clause-returned : goal.returns-clause-returned
returns-clause-returned c = returned_integer

pub returns-clause-failed : goal.returns-clause-failed
returns-clause-failed c = division_error

pub returns-clause-precondition : goal.returns-clause-precondition
returns-clause-precondition c = between_is_row_form
