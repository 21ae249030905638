-- The flags are met slot by slot.
use Rattle.std.proofs.Common.{◌≡◌, ◌∙◌, ap, sym, subst, length, take, List, Bool, arith}
use Rattle.c_assigned.specs.Sets.{intersection}
use Rattle.c_assigned.proofs.Meets.{Meeting, met_none, met_next, met_both, as_long}
use Rattle.c_assigned.proofs.sets.intersection.Goals as goal

pub loop-slot-init : goal.loop-slot-init
loop-slot-init c =
    let others = c.as_slice-others.result.now in
    let flags : c.truncate.new.self.items ≡ take (length others) c.args.left =
    c.truncate.ensures.items ∙ ap (take (length others)) c.into_vec-flags.ensures in
    subst (λ (fs : List Bool). Meeting (take (length others) c.args.left) others fs 0) (sym flags)
    (met_none c.args.left others)

pub loop-slot-preserved : goal.loop-slot-preserved
loop-slot-preserved c =
    let xs = take (length c.as_slice-others.result.now) c.args.left in
    let ys = c.as_slice-others.result.now in
    let long = as_long xs ys c.loop-slot.flags.items c.loop-slot.slot c.loop-slot.invariant in
    met_next xs ys c.loop-slot.flags.items c.loop-slot.slot c.loop-slot.invariant
    (omega (arith, long, c.len.ensures, c.loop-slot-test.true))
    c.index.result.now c.both_hold.result c.index.ensures c.both_hold.ensures

pub bounds-others-slot : goal.bounds-others-slot
bounds-others-slot c =
    let xs = take (length c.as_slice-others.result.now) c.args.left in
    let long = as_long xs c.as_slice-others.result.now c.loop-slot.flags.items c.loop-slot.slot
    c.loop-slot.invariant in
    omega (arith, long, c.len.ensures, c.loop-slot-test.true, c.loop-slot.invariant.shorter)

pub returns : goal.returns
returns c =
    c.from_vec.ensures
    ∙ met_both c.args.left c.as_slice-others.result.now c.loop-slot.flags.items c.loop-slot.slot
    c.loop-slot.invariant (omega (arith, c.len.ensures, c.loop-slot-test.false))
    ∙ ap (intersection c.args.left) c.as_slice-others.ensures
