use Rattle.std.proofs.Common.{suc, None}
use Rattle.c_syntax.specs.Grammar.{Expression, levels}
use Rattle.c_syntax.specs.Readers.{Reads}
use Rattle.c_parse.proofs.PreLemmas.{no_expression}
use Rattle.c_parse.proofs.precondition.parse_pre.Goals as goal

pub pre_syntax_error-requires-clause-unspelled : goal.pre_syntax_error-requires-clause-unspelled
pre_syntax_error-requires-clause-unspelled c =
    let ts = c.args.tokens.now in
    let read : Reads (Expression ts) ts (suc levels) 0 200 None =
    rw c.in-Ok-None.field-0-is at c.in-Ok-None.ensures in
    no_expression ts read
