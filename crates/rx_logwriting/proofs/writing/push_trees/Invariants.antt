use Rattle.std.proofs.Common.{◌≡◌, ◌++◌, take}
use Rattle.rx_term_words.specs.Trees.{tree_text}
use Rattle.rx_words.specs.Words.{each_spaced}
use Rattle.rx_logwriting.proofs.writing.push_trees.Given as goal

abbrev pub invariant-loop-tree : goal.invariant-loop-tree
invariant-loop-tree l =
    l.out.items ≡ l.initial.out.items ++ each_spaced tree_text (take l.tree-index l.trees)
