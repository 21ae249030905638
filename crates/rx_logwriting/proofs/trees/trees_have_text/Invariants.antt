use Rattle.std.proofs.Common.{◌≡◌, true, take}
use Rattle.std.specs.List.{list_all}
use Rattle.rx_term_words.specs.Trees as spec
use Rattle.rx_logwriting.proofs.trees.trees_have_text.Given as goal

abbrev pub invariant-loop-tree : goal.invariant-loop-tree
invariant-loop-tree l = list_all spec.trees.in_range (take l.tree-index l.trees) ≡ true
