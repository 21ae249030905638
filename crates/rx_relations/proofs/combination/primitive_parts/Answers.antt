-- The common divisor divides each coefficient; where it is 1, nothing changes.
use Rattle.std.proofs.Common.{◌∙◌, ap, sym}
use Rattle.rx_fm.specs.Elimination.{coefficients}
use Rattle.rx_fm.specs.Numbers.{divides_all}
use Rattle.rx_relations.proofs.Dividing.{common_divides, parts_one}
use Rattle.rx_relations.proofs.combination.primitive_parts.Goals as goal

pub returns-then-by-eq1 : goal.returns-then-by-eq1
returns-then-by-eq1 c =
    sym (parts_one c.args.combination (sym c.common_content-by.ensures ∙ c.if-by-eq1.true))

pub divided_poly-requires : goal.divided_poly-requires
divided_poly-requires c =
    ap (λ d. divides_all d (coefficients c.args.combination.value)) c.common_content-by.ensures ∙
    (common_divides c.args.combination).0

pub divided_poly-requires-2 : goal.divided_poly-requires-2
divided_poly-requires-2 c =
    ap (λ d. divides_all d (coefficients c.args.combination.relation)) c.common_content-by.ensures ∙
    (common_divides c.args.combination).1
