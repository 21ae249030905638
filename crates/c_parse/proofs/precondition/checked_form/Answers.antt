use Rattle.c_syntax.proofs.NamedVariables.{whole_named}
use Rattle.c_parse.proofs.PreLemmas.{no_whole}
use Rattle.c_parse.proofs.precondition.checked_form.Goals as goal

pub pre_syntax_error-requires-clause-unspelled : goal.pre_syntax_error-requires-clause-unspelled
pre_syntax_error-requires-clause-unspelled c =
    no_whole c.args.tokens.now c.args.read c.requires.read c.if-read-tokens.true

pub returns-then-is_row_form-clause-named : goal.returns-then-is_row_form-clause-named
returns-then-is_row_form-clause-named c =
    whole_named c.args.tokens.now 0 c.args.read.end c.args.read.tree c.requires.read.found.spelled
