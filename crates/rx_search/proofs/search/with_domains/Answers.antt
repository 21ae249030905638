-- A log that is accepted inside the domains is accepted with them.
use Rattle.std.proofs.Common.{refl}
use Rattle.rx_search.proofs.Closing.{accepted_inside}
use Rattle.rx_search.proofs.Shallow.{shallow_inside}
use Rattle.rx_search.proofs.search.with_domains.Goals as goal

pub returns-clause-accepted : goal.returns-clause-accepted
returns-clause-accepted c = λ kind parts goal found is.
    accepted_inside kind parts goal c.args.log _ c.args.domains refl found is

pub returns-clause-shallow : goal.returns-clause-shallow
returns-clause-shallow c = λ one two.
    shallow_inside c.args.log _ c.args.domains refl one two
