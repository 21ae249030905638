use Rattle.std.proofs.Common.{◌≤◌, arith}
use Rattle.c_lex.specs.Bytes.{until, at_line_end}
use Rattle.c_lex.proofs.Lines.{seen_line_comment}
use Rattle.c_lex.proofs.Scans.{line_comment_some}
use Rattle.c_lex.proofs.piece.line_comment.Goals as goal

pub blank-requires-clause-some : goal.blank-requires-clause-some
blank-requires-clause-some c =
    omega (arith, line_comment_some c.args.rest.now c.requires, c.place_of.ensures.value)

pub blank-requires-clause-line : goal.blank-requires-clause-line
blank-requires-clause-line c =
    let some : 1 ≤ until at_line_end c.args.rest.now =
    line_comment_some c.args.rest.now c.requires in
    rw c.place_of.ensures.value (seen_line_comment c.args.rest.now some c.requires)
