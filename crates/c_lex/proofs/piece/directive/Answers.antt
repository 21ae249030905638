use Rattle.std.proofs.Common.{◌≤◌, arith}
use Rattle.c_lex.specs.Bytes.{until}
use Rattle.c_lex.specs.Pieces.{at_include_end}
use Rattle.c_lex.proofs.Lines.{seen_include_line}
use Rattle.c_lex.proofs.Scans.{include_line_some}
use Rattle.c_lex.proofs.piece.directive.Goals as goal

pub blank-requires-clause-some : goal.blank-requires-clause-some
blank-requires-clause-some c =
    omega (arith, include_line_some c.args.rest.now c.requires, c.place_of.ensures.value)

pub blank-requires-clause-line : goal.blank-requires-clause-line
blank-requires-clause-line c =
    let some : 1 ≤ until at_include_end c.args.rest.now =
    include_line_some c.args.rest.now c.requires in
    rw c.place_of.ensures.value (seen_include_line c.args.rest.now some c.requires)
