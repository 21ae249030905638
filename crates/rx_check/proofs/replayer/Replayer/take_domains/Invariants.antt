-- The lines of the first symbols have come.
use Rattle.std.proofs.Common.{◌≡◌, take}
use Rattle.rx_log.specs.declared.line_state.LineState.TheVariants.{InDomains}
use Rattle.rx_check.specs.Replay.{HasRoots, place_after}
use Rattle.rx_check.specs.Whole.{with_lists}
use Rattle.rx_check.proofs.WholeLines.{ReplaysWith}
use Rattle.rx_check.proofs.replayer.Replayer.take_domains.Given as goal

abbrev pub invariant-loop-symbol : goal.invariant-loop-symbol
invariant-loop-symbol l = record {
  place : place_after l.self ≡ InDomains l.symbol;
  roots : HasRoots l.self;
  takes : ReplaysWith with_lists l.fn.self l.self l.rules (take l.symbol l.lists);
}
