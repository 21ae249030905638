-- One relation after the other.
use Rattle.std.proofs.Common.{◌∙◌, ap, [], ◌∷◌, ◌++◌}
use Rattle.rx_plain.proofs.MappedInOrder.{after_item}
use Rattle.rx_poly.specs.declared.body.Body.{Body}
use Rattle.rx_relations.proofs.linear.replaced_in_all.Goals as goal

pub loop-poly-preserved : goal.loop-poly-preserved
loop-poly-preserved c =
    after_item c.args.polys.now c.loop-poly.poly-index c.loop-poly-test.true c.poly-item.is
    c.loop-poly.invariant (c.in_ok-push.ensures.ok ∙
    ap (λ (b : Body). c.loop-poly.made ++ b ∷ []) c.in_ok-next.ensures.0) c.in_ok-next.ensures.1
