-- The polynomials of the first columns.
use Rattle.std.proofs.Common.{◌≡◌, take}
use Rattle.rx_find_ranks.specs.Columns.{columns_in, rank_at}
use Rattle.rx_find_ranks.proofs.ranks.rank_of.Given as goal

abbrev pub invariant-loop-column : goal.invariant-loop-column
invariant-loop-column l = l.rank ≡ rank_at (columns_in (take l.column-index l.columns)) l.symbol
