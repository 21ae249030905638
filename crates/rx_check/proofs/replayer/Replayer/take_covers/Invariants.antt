-- The lines of the first symbols have come.
use Rattle.std.proofs.Common.{take}
use Rattle.rx_check.specs.Replay.{HasRoots, place_after}
use Rattle.rx_check.specs.Whole.{AwaitsCover, with_covers}
use Rattle.rx_check.proofs.WholeLines.{ReplaysWith}
use Rattle.rx_check.proofs.replayer.Replayer.take_covers.Given as goal

abbrev pub invariant-loop-symbol : goal.invariant-loop-symbol
invariant-loop-symbol l = record {
  place : AwaitsCover l.symbol (place_after l.self);
  roots : HasRoots l.self;
  takes : ReplaysWith with_covers l.fn.self l.self l.rules (take l.symbol l.covers);
}
