-- The lines of the first pairs have come.
use Rattle.std.proofs.Common.{take}
use Rattle.rx_check.specs.LineByLine.{IsRanked}
use Rattle.rx_check.specs.Replay.{HasRoots, place_after}
use Rattle.rx_check.specs.Whole.{with_pairs}
use Rattle.rx_check.proofs.WholeLines.{ReplaysWith}
use Rattle.rx_check.proofs.replayer.Replayer.take_pairs.Given as goal

abbrev pub invariant-loop-pair : goal.invariant-loop-pair
invariant-loop-pair l = record {
  place : IsRanked (place_after l.self);
  roots : HasRoots l.self;
  takes : ReplaysWith with_pairs l.fn.self l.self l.rules (take l.pair-index l.pairs);
}
