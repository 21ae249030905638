-- How deep a cover tree is: 1, and 1 more for each level of splits in it.
use Rattle.std.specs.Prelude.{ℕ, ◌+◌, max}
use Rattle.rx_cover.specs.declared.cover_tree.CoverTree.{CoverTree}
use Rattle.rx_cover.specs.declared.cover_tree.CoverTree.TheOpen.{CoverTree-F}
use Rattle.rx_cover.specs.declared.cover_tree.CoverTree.TheFolds.{fold-CoverTree}

abbrev pub depth_level : CoverTree-F ℕ → ℕ
depth_level (CoverTree-F.Use rule certs) = 1
depth_level (CoverTree-F.Split row holds fails) = 1 + max holds fails
depth_level (CoverTree-F.Absurd cert) = 1

abbrev pub tree_depth : CoverTree → ℕ
tree_depth = fold-CoverTree ℕ depth_level
