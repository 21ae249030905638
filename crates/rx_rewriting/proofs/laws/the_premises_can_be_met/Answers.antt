use Rattle.rx_rewriting.proofs.Example.{copy_is_down, negative_outside, premises_hold}
use Rattle.rx_rewriting.proofs.laws.the_premises_can_be_met.Goals as goal

pub returns-clause-premises : goal.returns-clause-premises
returns-clause-premises c = premises_hold

pub returns-clause-results : goal.returns-clause-results
returns-clause-results c = copy_is_down

pub returns-clause-outside : goal.returns-clause-outside
returns-clause-outside c = negative_outside
