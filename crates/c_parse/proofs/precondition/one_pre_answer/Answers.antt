use Rattle.c_parse.proofs.OneAnswer.{one_pre_answer}
use Rattle.c_parse.proofs.precondition.one_pre_answer.Goals as goal

pub returns : goal.returns
returns c = one_pre_answer
