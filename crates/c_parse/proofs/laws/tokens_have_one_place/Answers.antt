use Rattle.c_parse.specs.Places.{IsExpression, IsProgram}
use Rattle.c_parse.proofs.OnePlace.{one_answer}
use Rattle.c_parse.proofs.laws.tokens_have_one_place.Goals as goal

pub returns-clause-programs : goal.returns-clause-programs
returns-clause-programs c = one_answer IsProgram

pub returns-clause-expressions : goal.returns-clause-expressions
returns-clause-expressions c = one_answer IsExpression
