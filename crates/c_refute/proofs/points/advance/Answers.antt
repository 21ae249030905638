use Rattle.std.proofs.Common.{arith, ℕ, suc, ◌-◌, ◌≡◌, subst}
use Rattle.c_refute.proofs.Walking.{Carried, carried_first, carried_on, carried_out, carried_over}
use Rattle.c_refute.proofs.points.advance.Goals as goal

pub loop-i-init : goal.loop-i-init
loop-i-init c = carried_first c.args.side c.args.point.now

pub loop-i-preserved : goal.loop-i-preserved
loop-i-preserved c =
    let j : ℕ = c.loop-i.i - 1 in
    let P : ℕ → Type 0 = λ n. Carried c.args.side c.args.point.now c.loop-i.point n in
    let e : c.loop-i.i ≡ suc j = omega arith in
    carried_on c.args.side c.args.point.now c.loop-i.point j (omega arith)
    (subst P e c.loop-i.invariant) c.raise.new.x c.if-raise.ensures.ended
    c.if-raise.ensures.least

pub returns-then-raise : goal.returns-then-raise
returns-then-raise c =
    let j : ℕ = c.loop-i.i - 1 in
    let P : ℕ → Type 0 = λ n. Carried c.args.side c.args.point.now c.loop-i.point n in
    let e : c.loop-i.i ≡ suc j = omega arith in
    carried_out c.args.side c.args.point.now c.loop-i.point j (omega arith)
    (subst P e c.loop-i.invariant) c.raise.new.x c.if-raise.ensures.raised

pub returns : goal.returns
returns c =
    let P : ℕ → Type 0 = λ n. Carried c.args.side c.args.point.now c.loop-i.point n in
    let e : c.loop-i.i ≡ 0 = omega arith in
    carried_over c.args.side c.args.point.now c.loop-i.point (subst P e c.loop-i.invariant)
