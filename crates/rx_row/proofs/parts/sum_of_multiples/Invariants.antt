use Rattle.std.proofs.Common.{drop, pos}
use Rattle.rx_poly.specs.Constants.{number}
use Rattle.rx_row.specs.Parts.{sum_from, sum_within}
use Rattle.rx_row.proofs.Summing.{Summing}
use Rattle.rx_row.proofs.parts.sum_of_multiples.Given as goal

abbrev pub invariant-loop-at : goal.invariant-loop-at
invariant-loop-at l =
    Summing l.sum l.rows (drop l.at-index l.parts) (sum_from (number (pos 0)) l.rows l.parts)
    (sum_within (number (pos 0)) l.rows l.parts)
