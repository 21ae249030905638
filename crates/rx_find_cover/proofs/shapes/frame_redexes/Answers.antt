-- One failure more.
use Rattle.std.proofs.Common.{◌∙◌, ap, map, ◌++◌, ◌+◌, ◌-◌}
use Rattle.rx_cover.specs.Covering.{over_failures}
use Rattle.rx_find_cover.proofs.Growing.{over_one}
use Rattle.rx_cover.specs.Redexes.{shape_at}
use Rattle.rx_find_cover.proofs.shapes.frame_redexes.Goals as goal

pub loop-before-preserved : goal.loop-before-preserved
loop-before-preserved c = λ f.
    ap (λ rs. map (shape_at f) rs ++ over_failures f (c.loop-before.before + 1 + 1)
    (c.args.fails - (c.loop-before.before + 1))) c.in_ok-push-2.ensures.ok
    ∙ over_one f c.loop-before.redexes c.loop-before.before c.args.fails c.loop-before-test.true
    ∙ c.loop-before.invariant f
