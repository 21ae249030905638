use Rattle.std.proofs.Common.{◌≡◌, true, take}
use Rattle.std.specs.List.{list_all}
use Rattle.rx_log.specs.Depth.{is_shallow_tree}
use Rattle.rx_logwriting.proofs.depth.are_shallow_trees.Given as goal

abbrev pub invariant-loop-tree : goal.invariant-loop-tree
invariant-loop-tree l = list_all is_shallow_tree (take l.tree-index l.trees) ≡ true
