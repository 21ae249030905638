use Rattle.rx_term.proofs.BoundLaws.{equation_below, rows_below, term_below}
use Rattle.rx_term.proofs.laws.bounds_are_the_least_above_all.Goals as goal

pub returns-clause-term : goal.returns-clause-term
returns-clause-term c = term_below

pub returns-clause-rows : goal.returns-clause-rows
returns-clause-rows c = rows_below

pub returns-clause-equation : goal.returns-clause-equation
returns-clause-equation c = equation_below
