use Rattle.std.proofs.Common.{◌≡◌, ◌≤◌, ◌<◌, ◌+◌, ◌*◌, ◌^◌, ℕ, sym, ap, ◌∙◌, add-one, arith}
use Rattle.std.proofs.Math.Nat.{mul-le-mul, pow-suc, pow-le-pow_right}
use Rattle.c_refute.proofs.points.number_of_points.Goals as goal

-- one more factor
next_power : (side from number i : ℕ) → from ≡ side → number ≡ (2 * side + 1) ^ i →
    number * (2 * from + 1) ≡ (2 * side + 1) ^ (i + 1)
next_power side from number i e h =
    let product : number * (2 * from + 1) ≡ (2 * side + 1) ^ i * (2 * side + 1) = cc in
    product ∙ (sym (pow-suc (2 * side + 1) i) ∙ ap (λ k. (2 * side + 1) ^ k) (sym (add-one i)))

pub overflow_mul-number : goal.overflow_mul-number
overflow_mul-number c =
    let width : 2 * c.from.result + 1 ≤ 8589934592 = omega arith in
    omega (arith, mul-le-mul c.loop.invariant.1 width)

pub loop-preserved : goal.loop-preserved
loop-preserved c = (
  next_power c.args.side c.from.result c.loop.number c.loop.counter c.from.ensures
      c.loop.invariant.0,
  c.if-number-gt-MAX_POINTS.false,
)

pub returns-then-number-gt-MAX_POINTS : goal.returns-then-number-gt-MAX_POINTS
returns-then-number-gt-MAX_POINTS c = λ few.
    let power = next_power c.args.side c.from.result c.loop.number c.loop.counter c.from.ensures
    c.loop.invariant.0 in
    let positive : 0 < 2 * c.args.side + 1 = omega arith in
    let further : c.loop.counter + 1 ≤ c.args.arity = omega arith in
    let grows = pow-le-pow_right positive further in
    omega (arith, power, grows, few, c.if-number-gt-MAX_POINTS.true)
