use Rattle.c_meaning.proofs.Narrowing.{never_out_of_range, returns_alike}
use Rattle.c_meaning.proofs.laws.results_in_range_are_kept.Goals as goal

pub returns-clause-kept : goal.returns-clause-kept
returns-clause-kept c = returns_alike

pub returns-clause-never : goal.returns-clause-never
returns-clause-never c = never_out_of_range
