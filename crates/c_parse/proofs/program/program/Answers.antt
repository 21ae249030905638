use Rattle.std.proofs.Common.{length, Some, None}
use Rattle.c_syntax.specs.Readers.{Gives}
use Rattle.c_parse.specs.Readers.{LowExternal}
use Rattle.c_parse.proofs.Phrases.{collecting_begins, collecting_goes, collecting_stops, collecting_ends}
use Rattle.c_parse.proofs.program.program.Goals as goal

pub loop-at-init : goal.loop-at-init
loop-at-init c = collecting_begins c.args.tokens.now _ c.new.ensures c.new-2.ensures

pub returns-in_default : goal.returns-in_default
returns-in_default c =
    let ts = c.args.tokens.now in
    let read : Gives (LowExternal ts c.loop-at.at) c.loop-at.at (length ts) None =
    rw c.in_default.is at c.in_ok-read.ensures in
    collecting_stops ts c.loop-at.program c.loop-at.at c.loop-at.invariant c.loop-at-test.true read

pub loop-at-preserved : goal.loop-at-preserved
loop-at-preserved c =
    let ts = c.args.tokens.now in
    let read : Gives (LowExternal ts c.loop-at.at) c.loop-at.at (length ts) (Some c.in-Some.read) =
    rw c.in-Some.is at c.in_ok-read.ensures in
    rw c.in_ok-add.ensures
    (collecting_goes ts c.loop-at.program c.loop-at.at c.in-Some.read c.loop-at.invariant
    c.loop-at-test.true read)

pub returns : goal.returns
returns c =
    collecting_ends c.args.tokens.now c.loop-at.program c.loop-at.at c.loop-at.invariant
    c.loop-at-test.false
