use Rattle.std.proofs.Common.{suc, Some, refl}
use Rattle.c_syntax.specs.Grammar.{Expression, levels}
use Rattle.c_syntax.specs.Readers.{Reads}
use Rattle.c_syntax.proofs.DelimitedLemmas.{up_to_ends, up_to_misses}
use Rattle.c_syntax.proofs.delimited.expression_until.Goals as goal

pub returns-then-has_mark : goal.returns-then-has_mark
returns-then-has_mark c =
    let ts = c.args.tokens.now in
    let read : Reads (Expression ts) ts (suc levels) c.args.at c.args.room (Some c.in-Some.read) =
    rw c.in-Some.is at c.in_ok-read.ensures in
    up_to_ends c.args.mark ts c.args.at c.args.room c.requires.no_operator c.requires.no_choice
    c.requires.no_call c.in-Some.read read _ c.if-has_mark.ensures refl refl

pub returns-else-has_mark : goal.returns-else-has_mark
returns-else-has_mark c =
    let ts = c.args.tokens.now in
    let read : Reads (Expression ts) ts (suc levels) c.args.at c.args.room (Some c.in-Some.read) =
    rw c.in-Some.is at c.in_ok-read.ensures in
    up_to_misses c.args.mark ts c.args.at c.args.room c.requires.no_operator c.requires.no_choice
    c.requires.no_call c.in-Some.read read c.if-has_mark.ensures
