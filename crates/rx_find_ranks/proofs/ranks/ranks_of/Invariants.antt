-- The ranks of the first symbols.
use Rattle.std.proofs.Common.{◌≡◌, map}
use Rattle.rx_anchors.specs.Members.{symbols_of}
use Rattle.rx_find_ranks.specs.Columns.{columns_in, rank_at}
use Rattle.rx_find_ranks.proofs.ranks.ranks_of.Given as goal

abbrev pub invariant-loop-symbol : goal.invariant-loop-symbol
invariant-loop-symbol l = l.ranks ≡ map (rank_at (columns_in l.columns)) (symbols_of l.symbol)
