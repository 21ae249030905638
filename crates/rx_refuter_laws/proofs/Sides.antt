-- What is found of the two sides of a split, by what comes next.
use Rattle.std.proofs.Common.{List, [], ◌∷◌, ◌++◌}
use Rattle.rx_poly.specs.Limits.{is_within}
use Rattle.rx_poly.specs.declared.body.Body.{Body}
use Rattle.rx_row.specs.Negation.{negation, negation_within}
use Rattle.rx_row.specs.declared.row.Row.{Row}
use Rattle.rx_row.specs.declared.row.Row.TheVariants.{Ge}
use Rattle.rx_cert.specs.Differences.{one_less}
use Rattle.rx_cert.specs.DivisionFacts.{at_least_zero_within, below_zero_within, rows_at_least_zero, rows_below_zero}
use Rattle.rx_cert.specs.Findings.{Said, guard}
use Rattle.rx_solve.specs.declared.divisions.Ratio.{Ratio}

-- of a disequality
abbrev pub above_said : Body → List Row → (List Row → Said) → Said
above_said p rows next = guard (is_within (one_less p)) (next (rows ++ Ge (one_less p) ∷ []))

abbrev pub below_said : Body → List Row → (List Row → Said) → Said
below_said p rows next =
    guard (negation_within (Ge p)) (next (rows ++ negation (Ge p) ∷ []))

-- of a dividend
abbrev pub at_least_zero_said : Ratio → List Row → (List Row → Said) → Said
at_least_zero_said r rows next =
    guard (at_least_zero_within r.num r.den) (next (rows ++ rows_at_least_zero r.num r.den))

abbrev pub below_zero_said : Ratio → List Row → (List Row → Said) → Said
below_zero_said r rows next =
    guard (below_zero_within r.num r.den) (next (rows ++ rows_below_zero r.num r.den))
