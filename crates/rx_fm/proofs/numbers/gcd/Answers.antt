-- Each turn keeps the greatest common divisor; at the end it is the first of the two. Of 1 and
-- another number it is 1.
use Rattle.std.proofs.Common.{rules, ◌≡◌, ◌∙◌, pos, FitsSigned, arith, to_z}
use Rattle.std.specs.Int.{w128}
use Rattle.std.proofs.lemmas.Int.{ints, to_z-of_z}
use Rattle.rx_fm.proofs.Gcd.{gcd_turn, gcd_found, not_negative, one_found}
use Rattle.rx_fm.proofs.numbers.gcd.Goals as goal

pub returns-then-left-eq1 : goal.returns-then-left-eq1
returns-then-left-eq1 c =
    one_found c.args.left.now c.args.right.now (omega (arith, ints))

pub loop-y-preserved : goal.loop-y-preserved
loop-y-preserved c =
    let fits : FitsSigned w128 c.remainder-rest.result = search rules in
    let e = to_z-of_z w128 c.remainder-rest.result fits ∙ c.remainder-rest.ensures in (
      omega (arith, ints),
      not_negative e,
      gcd_turn (to_z w128 c.loop-y.x-bits)
          (to_z w128 c.loop-y.y-bits) e c.loop-y.invariant.2,
    )

pub returns : goal.returns
returns c =
    let ended : to_z w128 c.loop-y.y-bits ≡ pos 0 = omega (arith, ints) in
    gcd_found _ (to_z w128 c.loop-y.y-bits) c.loop-y.invariant.0 ended c.loop-y.invariant.2
