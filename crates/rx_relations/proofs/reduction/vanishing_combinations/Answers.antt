-- In order, the same relations vanish.
use Rattle.std.proofs.Common.{subst, List}
use Rattle.rx_plain.specs.Formed.{Formed, Forms}
use Rattle.rx_poly.specs.declared.body.Body.{Body}
use Rattle.rx_poly.specs.declared.poly_end.PolyEnd.TheVariants.{Large}
use Rattle.rx_relations.proofs.Eliminating.{in_order_is}
use Rattle.rx_relations.proofs.reduction.vanishing_combinations.Goals as goal

pub returns : goal.returns
returns c =
    subst (λ (f : Formed (List Body)). Forms Large c.reduce_all.result f)
    (in_order_is c.args.combinations.now) c.reduce_all.ensures
