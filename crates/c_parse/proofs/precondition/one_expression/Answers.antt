use Rattle.c_parse.proofs.PreLemmas.{expression_unique}
use Rattle.c_parse.proofs.precondition.one_expression.Goals as goal

pub returns : goal.returns
returns c = expression_unique
