use Rattle.std.proofs.lemmas.Result.{IfOk-weaker}
use Rattle.c_parse.proofs.ProgramPlaces.{program_places}
use Rattle.c_parse.proofs.recogniser.program_fault.Goals as goal

pub returns : goal.returns
returns c = IfOk-weaker _ _ _ (λ o h. program_places c.args.tokens.now o h) c.fault_of.ensures
