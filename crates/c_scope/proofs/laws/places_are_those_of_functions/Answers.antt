use Rattle.c_scope.proofs.Places.{definition_within, function_within}
use Rattle.c_scope.proofs.laws.places_are_those_of_functions.Goals as goal

pub returns-clause-definitions : goal.returns-clause-definitions
returns-clause-definitions c = definition_within

pub returns-clause-spelled : goal.returns-clause-spelled
returns-clause-spelled c = function_within
