use Rattle.std.proofs.Common.{◌≡◌, [], ◌∷◌}
use Rattle.c_lex.specs.Marks.{spelling}
use Rattle.c_lex.proofs.Lines.{two_part}
use Rattle.c_lex.proofs.piece.mark.Goals as goal

pub returns-in-Some-default-clause-part : goal.returns-in-Some-default-clause-part
returns-in-Some-default-clause-part c =
    let written : c.byte_at-first.result ∷ c.byte_at.result ∷ [] ≡ spelling c.in-Some-default.two =
    c.in-Some-default.ensures.spelled in
    two_part c.in-Some-default.two c.args.rest.now c.requires cc
