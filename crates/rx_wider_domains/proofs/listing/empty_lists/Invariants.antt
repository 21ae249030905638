-- As many as symbols so far.
use Rattle.std.proofs.Common.{◌≡◌, [], replicate}
use Rattle.rx_wider_domains.proofs.listing.empty_lists.Given as goal

abbrev pub invariant-loop-symbol : goal.invariant-loop-symbol
invariant-loop-symbol l = l.lists.items ≡ replicate l._symbol-index []
