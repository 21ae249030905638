-- The candidates so far, with those of the rows that are left.
use Rattle.std.proofs.Common.{◌≡◌, drop}
use Rattle.std.specs.List.{flat_map, fold}
use Rattle.rx_rank.specs.Candidates.{own_by, with_candidate}
use Rattle.rx_rank.proofs.candidates.push_own_rows.Given as goal

abbrev pub invariant-loop-row : goal.invariant-loop-row
invariant-loop-row l =
    fold with_candidate l.polys.items (flat_map (own_by l.arity) (drop l.row-index l.rows)) ≡
    fold with_candidate l.initial.polys.items (flat_map (own_by l.arity) l.rows)
