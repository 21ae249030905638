use Rattle.std.proofs.Common.{◌≡◌, take}
use Rattle.rx_check.proofs.lines.cover_line.Given as goal

abbrev pub invariant-loop-tree : goal.invariant-loop-tree
invariant-loop-tree l = l.copies ≡ take l.tree-index l.trees
