use Rattle.c_meaning.proofs.Rounds.{one_outcome}
use Rattle.c_meaning.proofs.laws.a_function_returns_at_most_one_outcome.Goals as goal

pub returns : goal.returns
returns c = one_outcome
