use Rattle.c_front.proofs.FewParams.{few}
use Rattle.c_front.proofs.front_end.parse_stage.Goals as goal

pub returns-in-Ok-clause-few_params : goal.returns-in-Ok-clause-few_params
returns-in-Ok-clause-few_params c = few c.in-Ok.program c.in-Ok.ensures.answer.2
