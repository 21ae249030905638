-- Trees that cover the rule set of rx_term's example: a point that is split, and a frame.
use Rattle.std.specs.Prelude.{List, [], ◌∷◌}
use Rattle.rx_poly.specs.Constants.{variable}
use Rattle.rx_row.specs.declared.row.Row.TheVariants.{Eq}
use Rattle.rx_cover.specs.declared.cover_tree.CoverTree.{CoverTree}
use Rattle.rx_cover.specs.declared.cover_tree.CoverTree.TheVariants.{Use, Split}

-- the first rule where its argument is 0, and else the second
abbrev pub point_trees : List CoverTree
point_trees = Split (Eq (variable 0)) (Use 0 []) (Use 1 []) ∷ []

-- the third rule over a returned value, the fourth over the failure
abbrev pub frame_trees : List CoverTree
frame_trees = Use 2 [] ∷ Use 3 [] ∷ []

abbrev pub trees : List (List CoverTree)
trees = point_trees ∷ frame_trees ∷ []
