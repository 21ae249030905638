use Rattle.rx_term.proofs.Example.{example_covered, example_made, example_paired, inside_domains, inside_fits, inside_inner, inside_moves, negative_outside}
use Rattle.rx_term.proofs.laws.the_premises_can_be_met.Goals as goal

pub returns-clause-made : goal.returns-clause-made
returns-clause-made c = example_made

pub returns-clause-paired : goal.returns-clause-paired
returns-clause-paired c = example_paired

pub returns-clause-inner : goal.returns-clause-inner
returns-clause-inner c = inside_inner

pub returns-clause-domains : goal.returns-clause-domains
returns-clause-domains c = inside_domains

pub returns-clause-fitting : goal.returns-clause-fitting
returns-clause-fitting c = inside_fits

pub returns-clause-covered : goal.returns-clause-covered
returns-clause-covered c = example_covered

pub returns-clause-outside : goal.returns-clause-outside
returns-clause-outside c = negative_outside

pub returns-clause-moves : goal.returns-clause-moves
returns-clause-moves c = inside_moves
