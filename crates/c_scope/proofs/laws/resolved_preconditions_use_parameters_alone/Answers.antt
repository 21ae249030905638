use Rattle.c_scope.proofs.Preconditions.{parameters_alone, no_calls}
use Rattle.c_scope.proofs.laws.resolved_preconditions_use_parameters_alone.Goals as goal

pub returns-clause-variables : goal.returns-clause-variables
returns-clause-variables c = parameters_alone

pub returns-clause-calls : goal.returns-clause-calls
returns-clause-calls c = no_calls
