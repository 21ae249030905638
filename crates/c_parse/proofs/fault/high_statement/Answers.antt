use Rattle.std.proofs.Common.{◌+◌, Some, None, length}
use Rattle.std.proofs.lemmas.Result.{IfOk-weaker}
use Rattle.c_syntax.specs.Readers.{Gives}
use Rattle.c_syntax.specs.Programs.{Parameters}
use Rattle.c_parse.specs.HighStatements.{IsFirstHigh, IsHigh}
use Rattle.c_parse.proofs.HighLemmas.{stuck_high, high_heading, high_parameters, high_inside, high_body, high_found}
use Rattle.c_parse.proofs.fault.high_statement.Goals as goal

pub parameters-requires-clause-inside : goal.parameters-requires-clause-inside
parameters-requires-clause-inside c =
    let ts = c.args.tokens.now in
    high_heading ts c.args.at (stuck_high ts c.args.at c.requires.stuck c.requires.spelled)

pub unreachable-requires : goal.unreachable-requires
unreachable-requires c =
    let ts = c.args.tokens.now in
    let none : Gives (Parameters ts (c.args.at + 3)) (c.args.at + 3) (length ts) None =
    rw c.in_default.is at c.in_ok-params.ensures in
    high_parameters ts c.args.at (stuck_high ts c.args.at c.requires.stuck c.requires.spelled) none

pub high_item-requires-clause-inside : goal.high_item-requires-clause-inside
high_item-requires-clause-inside c =
    let ts = c.args.tokens.now in
    let read : Gives (Parameters ts (c.args.at + 3)) (c.args.at + 3) (length ts)
    (Some c.in-Some.params) = rw c.in-Some.is at c.in_ok-params.ensures in
    high_inside ts c.args.at (stuck_high ts c.args.at c.requires.stuck c.requires.spelled)
    c.in-Some.params read

pub high_item-requires-clause-high : goal.high_item-requires-clause-high
high_item-requires-clause-high c =
    let ts = c.args.tokens.now in
    let read : Gives (Parameters ts (c.args.at + 3)) (c.args.at + 3) (length ts)
    (Some c.in-Some.params) = rw c.in-Some.is at c.in_ok-params.ensures in
    high_body ts c.args.at (stuck_high ts c.args.at c.requires.stuck c.requires.spelled)
    c.in-Some.params read

pub returns : goal.returns
returns c =
    let ts = c.args.tokens.now in
    let read : Gives (Parameters ts (c.args.at + 3)) (c.args.at + 3) (length ts)
    (Some c.in-Some.params) = rw c.in-Some.is at c.in_ok-params.ensures in
    IfOk-weaker c.high_item.result (IsFirstHigh ts (c.in-Some.params.end + 1)) (IsHigh ts)
    (high_found ts c.args.at (stuck_high ts c.args.at c.requires.stuck c.requires.spelled)
    c.in-Some.params read c.requires.stuck c.requires.spelled)
    c.high_item.ensures
