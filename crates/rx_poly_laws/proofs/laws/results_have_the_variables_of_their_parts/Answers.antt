use Rattle.rx_poly_laws.proofs.TestLaws.{passes-number, passes-variable, passes-body_sum, passes-body_difference, passes-scaled_by, passes-body_product, passes-quotient_of, passes-remainder_of}
use Rattle.rx_poly_laws.proofs.laws.results_have_the_variables_of_their_parts.Goals as goal

pub returns-clause-number : goal.returns-clause-number
returns-clause-number c = passes-number

pub returns-clause-variable : goal.returns-clause-variable
returns-clause-variable c = passes-variable

pub returns-clause-sum : goal.returns-clause-sum
returns-clause-sum c = passes-body_sum

pub returns-clause-difference : goal.returns-clause-difference
returns-clause-difference c = passes-body_difference

pub returns-clause-multiple : goal.returns-clause-multiple
returns-clause-multiple c = passes-scaled_by

pub returns-clause-product : goal.returns-clause-product
returns-clause-product c = passes-body_product

pub returns-clause-quotient : goal.returns-clause-quotient
returns-clause-quotient c = passes-quotient_of

pub returns-clause-remainder : goal.returns-clause-remainder
returns-clause-remainder c = passes-remainder_of
