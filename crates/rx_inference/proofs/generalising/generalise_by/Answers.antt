-- The rows of the instance, and then those that put the new goal inside.
use Rattle.std.proofs.Common.{List}
use Rattle.rx_plain.specs.Formed.{Formed, ◌<$>◌}
use Rattle.rx_poly.specs.declared.poly_end.PolyEnd.TheVariants as end
use Rattle.rx_row.specs.declared.row.Row.{Row}
use Rattle.rx_term.specs.Domains.{inside_of}
use Rattle.rx_inference.specs.Making.{asking_inside, instance_rows}
use Rattle.rx_inference.specs.declared.formed_step.FormedStep.{FormedStep}
use Rattle.rx_inference.proofs.InsideLaws.{after_formed}
use Rattle.rx_inference.proofs.generalising.generalise_by.Goals as goal

pub returns : goal.returns
returns c =
    let a = c.args in
    let inside : Formed (List Row) = inside_of a.rules.now a.new in
    let next : List Row → Formed FormedStep =
    λ rows. (λ (more : List Row). asking_inside rows more a.new) <$> inside in
    record {
      forms =
          after_formed end.Large c.asking_formed_inside.result
          (instance_rows a.with.now a.new a.goal.now) next c.in_ok-rows.rows
          c.in_ok-rows.ensures.forms
          (c.asking_formed_inside.ensures inside c.inside_of-inside.ensures.forms);
    }
