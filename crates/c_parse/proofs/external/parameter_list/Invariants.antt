use Rattle.std.proofs.Common.{◌-◌, length}
use Rattle.c_parse.specs.Readers.{Listing}
use Rattle.c_parse.proofs.external.parameter_list.Given as goal

abbrev pub invariant-parameters : goal.invariant-parameters
invariant-parameters l = Listing l.tokens l.at l.found l.end

abbrev pub decreases-parameters : goal.decreases-parameters
decreases-parameters l = length l.tokens - l.end
