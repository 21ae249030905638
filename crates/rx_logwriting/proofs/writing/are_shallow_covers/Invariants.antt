use Rattle.std.proofs.Common.{◌≡◌, true, take}
use Rattle.std.specs.List.{list_all}
use Rattle.rx_log.specs.Depth.{is_shallow_tree}
use Rattle.rx_logwriting.proofs.writing.are_shallow_covers.Given as goal

abbrev pub invariant-loop-trees : goal.invariant-loop-trees
invariant-loop-trees l =
    list_all (λ trees. list_all is_shallow_tree trees) (take l.trees-index l.covers) ≡ true
