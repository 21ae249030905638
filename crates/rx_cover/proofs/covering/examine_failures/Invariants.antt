-- What is left of the trees decides, the code going on with their number; the path is as before.
use Rattle.std.proofs.Common.{◌≡◌, ◌+◌, drop, length}
use Rattle.rx_cover.specs.Covering.{in_turn, over_failures, symbol}
use Rattle.rx_cover.proofs.covering.examine_failures.Given as goal

abbrev pub invariant-loop-at : goal.invariant-loop-at
invariant-loop-at l = record {
  decides : in_turn l.rules l.fn.path
      (over_failures (symbol l.sym) (l.at + 1) (length (drop l.at l.trees))) (drop l.at l.trees)
      ≡ in_turn l.rules l.fn.path (over_failures (symbol l.sym) 1 (length l.trees)) l.trees;
  kept : l.path ≡ l.fn.path;
}
