use Rattle.std.proofs.Common.{Some, None, length}
use Rattle.c_syntax.specs.Readers.{Gives, IsNoHigher}
use Rattle.c_syntax.specs.Heights.{list_height}
use Rattle.c_syntax.specs.Statements.{BlockItem}
use Rattle.c_parse.proofs.HighLemmas.{seeking_begins, seeking_goes, seeking_stops}
use Rattle.c_parse.proofs.fault.high_item.Goals as goal

pub items-init : goal.items-init
items-init c = seeking_begins c.args.tokens.now c.args.at c.requires.inside c.requires.high

pub returns-in_default : goal.returns-in_default
returns-in_default c =
    let ts = c.args.tokens.now in
    let read : Gives (IsNoHigher list_height 200 (BlockItem ts c.items.end)) c.items.end (length ts)
    None =
    rw c.in_default.is at c.in_ok-read.ensures in
    seeking_stops ts c.args.at c.items.end c.items.invariant read

pub items-preserved : goal.items-preserved
items-preserved c =
    let ts = c.args.tokens.now in
    let read : Gives (IsNoHigher list_height 200 (BlockItem ts c.items.end)) c.items.end (length ts)
    (Some c.in-Some.read) = rw c.in-Some.is at c.in_ok-read.ensures in
    seeking_goes ts c.args.at c.items.end c.in-Some.read c.items.invariant read
