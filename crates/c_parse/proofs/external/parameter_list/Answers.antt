use Rattle.std.proofs.Common.{length, Some, None, refl}
use Rattle.c_syntax.specs.Programs.{Parameter}
use Rattle.c_syntax.specs.Readers.{Gives}
use Rattle.c_parse.proofs.Lists.{listing_begins, listing_stops, listing_ends, listing_goes, listing_breaks}
use Rattle.c_parse.proofs.external.parameter_list.Goals as goal

pub parameters-init : goal.parameters-init
parameters-init c =
    rw c.new-found.ensures (listing_begins c.args.tokens.now c.args.at c.requires.inside)

pub returns-in_default : goal.returns-in_default
returns-in_default c =
    let ts = c.args.tokens.now in
    let read : Gives (Parameter ts c.parameters.end) c.parameters.end (length ts) None =
    c.in_default.ensures in
    listing_stops ts c.args.at c.parameters.found c.parameters.end c.parameters.invariant read

pub returns-then-has_mark : goal.returns-then-has_mark
returns-then-has_mark c =
    let ts = c.args.tokens.now in
    let read : Gives (Parameter ts c.parameters.end) c.parameters.end (length ts)
    (Some c.in-Some.read) = c.in-Some.ensures in
    listing_ends ts c.args.at c.parameters.found c.parameters.end c.parameters.invariant
    c.in-Some.read read _ c.if-has_mark.ensures c.in_ok-push.ensures.ok refl

pub returns-then-not-has_mark : goal.returns-then-not-has_mark
returns-then-not-has_mark c =
    let ts = c.args.tokens.now in
    let read : Gives (Parameter ts c.parameters.end) c.parameters.end (length ts)
    (Some c.in-Some.read) = c.in-Some.ensures in
    listing_breaks ts c.args.at c.parameters.found c.parameters.end c.parameters.invariant
    c.in-Some.read read c.if-has_mark.ensures c.if-not-has_mark.ensures

pub parameters-preserved : goal.parameters-preserved
parameters-preserved c =
    let ts = c.args.tokens.now in
    let read : Gives (Parameter ts c.parameters.end) c.parameters.end (length ts)
    (Some c.in-Some.read) = c.in-Some.ensures in
    rw c.in_ok-push.ensures.ok
    (listing_goes ts c.args.at c.parameters.found c.parameters.end c.parameters.invariant
    c.in-Some.read read c.if-not-has_mark.ensures)
