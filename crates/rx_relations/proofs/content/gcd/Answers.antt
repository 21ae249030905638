-- Each turn keeps the greatest common divisor; at the end it is the first of the two.
use Rattle.std.proofs.Common.{◌≡◌, ◌∙◌, sym, arith}
use Rattle.rx_fm.proofs.Gcd.{gcd_end, gcd_step}
use Rattle.rx_relations.proofs.content.gcd.Goals as goal

pub loop-y-preserved : goal.loop-y-preserved
loop-y-preserved c = gcd_step c.loop-y.x c.loop-y.y ∙ c.loop-y.invariant

pub returns : goal.returns
returns c =
    let ended : c.loop-y.y ≡ 0 = omega arith in
    sym (gcd_end c.loop-y.x c.loop-y.y ended) ∙ c.loop-y.invariant
