use Rattle.std.proofs.Common.{◌≡◌, true, take}
use Rattle.std.specs.List.{list_all}
use Rattle.rx_logwriting.specs.Ranges.{is_readable_pair}
use Rattle.rx_logwriting.proofs.ranges.pairs_have_text.Given as goal

abbrev pub invariant-loop-pair : goal.invariant-loop-pair
invariant-loop-pair l = list_all is_readable_pair (take l.pair-index l.pairs) ≡ true
