-- Cover trees as words: their kind, the rule or row, and the certificates and trees in them.
use Rattle.std.specs.Prelude.{ℕ, nat_le, Bool, ◌&&◌, List, [], ◌∷◌, codes}
use Rattle.rx_text.specs.Formats.{Format}
use Rattle.rx_text.specs.Numbers.{natural_text}
use Rattle.rx_text.specs.Rows.{is_readable_row, row_text}
use Rattle.rx_cover.specs.Depth.{tree_depth}
use Rattle.rx_cover.specs.declared.cover_tree.CoverTree.{CoverTree}
use Rattle.rx_cover.specs.declared.cover_tree.CoverTree.TheOpen.{CoverTree-F}
use Rattle.rx_cover.specs.declared.cover_tree.CoverTree.TheFolds.{fold-CoverTree}
use Rattle.rx_words.specs.Certificates.{certificate_lists, certificates}
use Rattle.rx_words.specs.Words.{numbers, spaced, words}

-- a tree, by the texts of those in it
abbrev pub tree_text_level : CoverTree-F (List ℕ) → List ℕ
tree_text_level (CoverTree-F.Use rule certs) =
    spaced (codes "use" ∷ natural_text rule ∷ certificate_lists.text certs ∷ [])
tree_text_level (CoverTree-F.Split row holds fails) =
    spaced (codes "split" ∷ row_text row ∷ holds ∷ fails ∷ [])
tree_text_level (CoverTree-F.Absurd cert) = spaced (codes "absurd" ∷ certificates.text cert ∷ [])

-- the text of a tree
abbrev pub tree_text : CoverTree → List ℕ
tree_text = fold-CoverTree (List ℕ) tree_text_level

-- all in it has a text; the depth of its certificates counts for each of them alone
abbrev pub is_readable_level : CoverTree-F Bool → Bool
is_readable_level (CoverTree-F.Use rule certs) =
    numbers.in_range rule && certificate_lists.in_range certs
is_readable_level (CoverTree-F.Split row holds fails) = is_readable_row row && (holds && fails)
is_readable_level (CoverTree-F.Absurd cert) = certificates.in_range cert

abbrev pub is_readable_tree : CoverTree → Bool
is_readable_tree = fold-CoverTree Bool is_readable_level

-- trees that are at most so deep
abbrev pub trees_within : ℕ → Format CoverTree
trees_within most = words tree_text (λ tree. nat_le (tree_depth tree) most && is_readable_tree tree)

-- trees that are at most 200 deep
abbrev pub trees : Format CoverTree
trees = trees_within 200
