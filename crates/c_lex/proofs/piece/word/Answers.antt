use Rattle.std.proofs.Common.{sym}
use Rattle.c_lex.proofs.Runs.{name_part, keyword_part}
use Rattle.c_lex.proofs.piece.word.Goals as goal

pub returns-in-Some-clause-part : goal.returns-in-Some-clause-part
returns-in-Some-clause-part c =
    keyword_part c.args.rest.now c.run-len.result c.in-Some.keyword c.run-len.ensures.len c.requires
    (sym c.in-Some.ensures)

pub returns-in-None-clause-part : goal.returns-in-None-clause-part
returns-in-None-clause-part c =
    name_part c.args.rest.now c.run-len.result c.run-len.ensures.len c.requires
    (sym c.in-None.ensures)
