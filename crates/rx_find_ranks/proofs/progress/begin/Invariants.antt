-- The first pairs are open, with their numbers.
use Rattle.std.proofs.Common.{◌≡◌}
use Rattle.rx_find_ranks.proofs.BeginLaws.{none_closed, opens_from}
use Rattle.rx_find_ranks.proofs.progress.begin.Given as goal

abbrev pub invariant-loop-pair : goal.invariant-loop-pair
invariant-loop-pair l = record {
  entries : l.entries.items ≡ opens_from 0 l.yielded;
  closed : l.closed.items ≡ none_closed l.yielded;
}
