use Rattle.c_meaning.proofs.Rounds.{expr_stays, stmt_stays, call_stays}
use Rattle.c_meaning.proofs.laws.outcomes_stay_with_more_rounds.Goals as goal

pub returns-clause-expressions : goal.returns-clause-expressions
returns-clause-expressions c = expr_stays

pub returns-clause-statements : goal.returns-clause-statements
returns-clause-statements c = stmt_stays

pub returns-clause-calls : goal.returns-clause-calls
returns-clause-calls c = call_stays
