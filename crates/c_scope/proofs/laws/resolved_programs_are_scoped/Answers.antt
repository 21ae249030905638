use Rattle.c_scope.proofs.Programs.{resolved_is_scoped, resolved_counts}
use Rattle.c_scope.proofs.laws.resolved_programs_are_scoped.Goals as goal

pub returns-clause-scoped : goal.returns-clause-scoped
returns-clause-scoped c = resolved_is_scoped

pub returns-clause-counts : goal.returns-clause-counts
returns-clause-counts c = resolved_counts
