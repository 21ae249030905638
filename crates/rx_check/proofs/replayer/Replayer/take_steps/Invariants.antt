-- The lines of the first steps have come.
use Rattle.std.proofs.Common.{take}
use Rattle.rx_check.specs.LineByLine.{IsOpen}
use Rattle.rx_check.specs.Replay.{HasRoots, place_after}
use Rattle.rx_check.specs.Whole.{with_steps}
use Rattle.rx_check.proofs.WholeLines.{ReplaysWith}
use Rattle.rx_check.proofs.replayer.Replayer.take_steps.Given as goal

abbrev pub invariant-loop-step : goal.invariant-loop-step
invariant-loop-step l = record {
  place : IsOpen (place_after l.self);
  roots : HasRoots l.self;
  takes : ReplaysWith with_steps l.fn.self l.self l.rules (take l.step-index l.steps);
}
