-- A difference is 0 exactly where both are equal.
use Rattle.std.proofs.Common.{◌∙◌, ◌-ℤ◌}
use Rattle.std.proofs.lemmas.Int.{to_z-of_z}
use Rattle.std.specs.Int.{w128}
use Rattle.rx_poly.specs.Value.{value}
use Rattle.rx_row.proofs.RowLaws.{no_difference}
use Rattle.rx_row.proofs.row.Row.named.Goals as goal

pub returns-clause-holds : goal.returns-clause-holds
returns-clause-holds c = λ a.
    no_difference (value a c.in_ok-sub.field-0) (a c.args.var) c.args.integer
    (c.in_ok-sub.ensures.value a ∙ (λ i. c.in_ok-variable.ensures.value a i -ℤ
    (c.in_ok-constant.ensures.value a ∙ to_z-of_z w128 c.args.integer c.ranges.integer) i))
