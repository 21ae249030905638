use Rattle.std.proofs.Common.{arith, ap, sym, subst, ◌∙◌, ◌<◌, ◌^◌, rules, length, ℕ, List, Bool, true}
use Rattle.std.specs.Prelude.{slice_get, slice_set}
use Rattle.rx_translate.proofs.Walks.{Walking, finished, function_read, less_left, mark_read, marked_now, passed, place_reached, reached_there, started}
use Rattle.rx_translate.proofs.reached.marks_of_reached.Goals as goal

pub loop-place-init : goal.loop-place-init
loop-place-init c =
    started c.args.program.now c.args.first c.args.second c.as_slice-functions.result.now
    c.in_ok-marks.marks.items c.in_ok-waiting.waiting c.as_slice-functions.ensures
    c.in_ok-marks.ensures
    c.in_ok-waiting.ensures

pub index-requires : goal.index-requires
index-requires c =
    let below = reached_there c.args.program.now c.args.first c.args.second c.requires.scoped
    c.requires.first_there c.requires.second_there c.in-Some.place
    (place_reached c.args.program.now c.args.first c.args.second c.loop-place.marks.items
    c.loop-place.waiting c.pop.new.self c.in-Some.place c.in-Some.ensures
    c.loop-place.invariant) in
    let size = c.loop-place.invariant.size in
    omega (arith, below, size)

pub bounds-functions-place : goal.bounds-functions-place
bounds-functions-place c =
    let below = reached_there c.args.program.now c.args.first c.args.second c.requires.scoped
    c.requires.first_there c.requires.second_there c.in-Some.place
    (place_reached c.args.program.now c.args.first c.args.second c.loop-place.marks.items
    c.loop-place.waiting c.pop.new.self c.in-Some.place c.in-Some.ensures
    c.loop-place.invariant) in
    let same = ap length c.as_slice-functions.ensures in
    omega (arith, below, same)

pub loop-place-preserved : goal.loop-place-preserved
loop-place-preserved c =
    let program = c.args.program.now in let f = c.args.first in let g = c.args.second in
    let place = c.in-Some.place in let marks = c.loop-place.marks.items in let w =
    c.loop-place.invariant in
    let below = reached_there program f g c.requires.scoped c.requires.first_there
    c.requires.second_there place
    (place_reached program f g marks c.loop-place.waiting c.pop.new.self place c.in-Some.ensures w)
    in
    let size = w.size in
    let below_marks : place < length marks = omega (arith, below, size) in
    passed program f g marks c.loop-place.waiting c.pop.new.self place c.in-Some.ensures w
    (mark_read marks place c.index.result.now below_marks c.index.ensures ∙
    c.if-not-index.false)

pub loop-place-preserved-in-Continue-branch-3 : goal.loop-place-preserved-in-Continue-branch-3
loop-place-preserved-in-Continue-branch-3 c =
    let program = c.args.program.now in let f = c.args.first in let g = c.args.second in
    let place = c.in-Some.place in let marks = c.loop-place.marks.items in let w =
    c.loop-place.invariant in
    let function = c.index-functions-place.result in
    let below = reached_there program f g c.requires.scoped c.requires.first_there
    c.requires.second_there place
    (place_reached program f g marks c.loop-place.waiting c.pop.new.self place c.in-Some.ensures w)
    in
    let same = ap length c.as_slice-functions.ensures in
    let below_all : place < length c.as_slice-functions.result.now = omega (arith, below, same) in
    let there = sym (ap (λ fs. slice_get fs place) c.as_slice-functions.ensures) ∙
    function_read c.as_slice-functions.result.now place function below_all
    c.index-functions-place.is in
    let small : place < 2 ^ 32 = search rules in
    subst (λ (bs : List Bool). Walking program f g bs c.push_calls.new.called) (sym c.mark.ensures)
    (subst (λ (ks : List ℕ). Walking program f g (slice_set marks place true) ks)
    (sym c.in_ok-push_calls.ensures)
    (marked_now program f g marks c.loop-place.waiting c.pop.new.self place c.in-Some.ensures w
    small below function there))

pub loop-place-smaller-in-Continue-branch-3 : goal.loop-place-smaller-in-Continue-branch-3
loop-place-smaller-in-Continue-branch-3 c =
    let program = c.args.program.now in let f = c.args.first in let g = c.args.second in
    let place = c.in-Some.place in let marks = c.loop-place.marks.items in let w =
    c.loop-place.invariant in
    let function = c.index-functions-place.result in
    let below = reached_there program f g c.requires.scoped c.requires.first_there
    c.requires.second_there place
    (place_reached program f g marks c.loop-place.waiting c.pop.new.self place c.in-Some.ensures w)
    in
    let size = w.size in
    let below_marks : place < length marks = omega (arith, below, size) in
    let same = ap length c.as_slice-functions.ensures in
    let below_all : place < length c.as_slice-functions.result.now = omega (arith, below, same) in
    let there = sym (ap (λ fs. slice_get fs place) c.as_slice-functions.ensures) ∙
    function_read c.as_slice-functions.result.now place function below_all
    c.index-functions-place.is in
    let less = less_left marks program.functions c.loop-place.waiting c.pop.new.self
    c.push_calls.new.called place function c.in-Some.ensures c.in_ok-push_calls.ensures
    below_marks
    (mark_read marks place c.index.result.now below_marks c.index.ensures ∙ c.if-not-index.true)
    there in
    rw c.mark.ensures less

pub returns : goal.returns
returns c =
    finished c.args.program.now c.args.first c.args.second c.loop-place.marks.items
    (subst (λ (ks : List ℕ). Walking c.args.program.now c.args.first c.args.second
    c.loop-place.marks.items ks) c.in_default.ensures.0 c.loop-place.invariant)
