-- The pairs of the first entries.
use Rattle.std.proofs.Common.{◌≡◌, take}
use Rattle.rx_rank.specs.Answers.{pairs_at}
use Rattle.rx_find_ranks.specs.Tables.{pairs_open}
use Rattle.rx_find_ranks.proofs.lending.pairs_of.Given as goal

abbrev pub invariant-loop-entry : goal.invariant-loop-entry
invariant-loop-entry l = pairs_at l.pairs.items ≡ pairs_open (take l.entry-index l.entries)
