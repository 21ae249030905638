use Rattle.c_parse.proofs.Unique.{program_unique}
use Rattle.c_parse.proofs.program.one_program.Goals as goal

pub returns : goal.returns
returns c = program_unique
