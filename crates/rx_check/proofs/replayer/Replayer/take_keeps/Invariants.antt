-- The lines of the first parts have come.
use Rattle.std.proofs.Common.{take}
use Rattle.rx_check.specs.Replay.{HasRoots, place_after}
use Rattle.rx_check.specs.Whole.{IsInside, with_keeps}
use Rattle.rx_check.proofs.WholeLines.{ReplaysWith}
use Rattle.rx_check.proofs.replayer.Replayer.take_keeps.Given as goal

abbrev pub invariant-loop-certs : goal.invariant-loop-certs
invariant-loop-certs l = record {
  place : IsInside (place_after l.self);
  roots : HasRoots l.self;
  takes : ReplaysWith with_keeps l.fn.self l.self l.rules (take l.certs-index l.keeps);
}
