use Rattle.std.proofs.lemmas.Result.{IfOk-weaker}
use Rattle.c_parse.proofs.ExpressionPlaces.{expression_places}
use Rattle.c_parse.proofs.recogniser.expression_fault.Goals as goal

pub returns : goal.returns
returns c = IfOk-weaker _ _ _ (λ o h. expression_places c.args.tokens.now o h) c.fault_of.ensures
