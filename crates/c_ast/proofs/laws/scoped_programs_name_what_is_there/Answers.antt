use Rattle.c_ast.proofs.ScopedLaws.{variables_in_scope, slots_grow, body_calls_there}
use Rattle.c_ast.proofs.laws.scoped_programs_name_what_is_there.Goals as goal

pub returns-clause-variables : goal.returns-clause-variables
returns-clause-variables c = variables_in_scope

pub returns-clause-slots : goal.returns-clause-slots
returns-clause-slots c = slots_grow

pub returns-clause-calls : goal.returns-clause-calls
returns-clause-calls c =
    λ program place function is there. body_calls_there program is place function there
