-- Each turn compares one of both; what is left of both decides.
use Rattle.rx_poly.proofs.Agreeing.{alike, ended, finished, unlike}
use Rattle.rx_poly.proofs.equality.are_same_terms.Goals as goal

pub returns : goal.returns
returns c =
    finished c.args.left.now c.args.right.now c.loop-one.rest.now c.loop-one.others.now
    c.loop-one.invariant c.is_empty.result c.in_default.ensures.cases c.is_empty.ensures

pub returns-in_default-split_first : goal.returns-in_default-split_first
returns-in_default-split_first c =
    ended c.args.left.now c.args.right.now c.loop-one.rest.now c.loop-one.others.now
    c.loop-one.invariant c.in-Some.one.now c.in-Some.more.now c.in-Some.ensures.cases.0
    c.in_default-split_first.ensures.cases

pub returns-then-not-is_same_term : goal.returns-then-not-is_same_term
returns-then-not-is_same_term c =
    unlike c.args.left.now c.args.right.now c.loop-one.rest.now c.loop-one.others.now
    c.loop-one.invariant c.in-Some.one.now c.in-Some.more.now c.in-Some.ensures.cases.0
    c.in-Some-split_first.other.now c.in-Some-split_first.further.now
    c.in-Some-split_first.ensures.cases.0 c.is_same_term.result c.if-not-is_same_term.true c.is_same_term.ensures

pub loop-one-preserved : goal.loop-one-preserved
loop-one-preserved c =
    alike c.args.left.now c.args.right.now c.loop-one.rest.now c.loop-one.others.now
    c.loop-one.invariant c.in-Some.one.now c.in-Some.more.now c.in-Some.ensures.cases.0
    c.in-Some-split_first.other.now c.in-Some-split_first.further.now
    c.in-Some-split_first.ensures.cases.0 (c.is_same_term.ensures.0 c.if-not-is_same_term.false)
