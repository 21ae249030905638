use Rattle.c_parse.proofs.OneAnswer.{one_answer}
use Rattle.c_parse.proofs.program.one_answer.Goals as goal

pub returns : goal.returns
returns c = one_answer
