-- The candidates so far, and what is left to try.
use Rattle.std.proofs.Common.{drop}
use Rattle.std.specs.List.{flat_map}
use Rattle.rx_rank.specs.Candidates.{row_candidates}
use Rattle.rx_rank.proofs.Gathering.{Gathering}
use Rattle.rx_rank.proofs.candidates.push_rows.Given as goal

abbrev pub invariant-loop-row : goal.invariant-loop-row
invariant-loop-row l =
    Gathering l.initial.polys.items l.polys.items l.noted
    (flat_map (row_candidates l.arity) (drop l.row-index l.rows))
    (flat_map (row_candidates l.arity) l.rows)
