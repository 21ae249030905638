use Rattle.rx_code.proofs.Example.{sums_compiled, division_compiled, forms_compiled, ranges_compiled, walks_compiled, between_read}
use Rattle.rx_code.proofs.laws.small_programs_are_compiled_so.Goals as goal

pub returns-clause-sums : goal.returns-clause-sums
returns-clause-sums c = sums_compiled

pub returns-clause-division : goal.returns-clause-division
returns-clause-division c = division_compiled

pub returns-clause-forms : goal.returns-clause-forms
returns-clause-forms c = forms_compiled

pub returns-clause-rows : goal.returns-clause-rows
returns-clause-rows c = between_read

pub returns-clause-walks : goal.returns-clause-walks
returns-clause-walks c = walks_compiled

pub returns-clause-ranges : goal.returns-clause-ranges
returns-clause-ranges c = ranges_compiled
