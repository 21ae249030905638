-- Cover trees by their kinds: the word that each begins with, and what is made of what comes after
-- it.
use Rattle.std.specs.Prelude.{◌≡◌, ℕ, Option, Some, None, List, ◌++◌, drop, codes}
use Rattle.std.specs.Option.{option_map}
use Rattle.rx_cert.specs.declared.cert.Cert.{Cert}
use Rattle.rx_cover.specs.declared.cover_tree.CoverTree.{CoverTree}
use Rattle.rx_cover.specs.declared.cover_tree.CoverTree.TheVariants as made
use Rattle.rx_row.specs.declared.row.Row.{Row}
use Rattle.rx_text.specs.Formats.{Format, Skips}
use Rattle.rx_text.specs.Rows.{row_format}
use Rattle.rx_words.specs.Certificates.{certificate_lists}
use Rattle.rx_term_words.specs.Trees.{trees_within}
use Rattle.rx_words.specs.Words.{numbers, pairs, word}
use Rattle.rx_term_words.specs.declared.trees.TreeKind.{TreeKind}

-- the word of a kind, with the space after it
abbrev pub tree_word : TreeKind → List ℕ
tree_word TreeKind.Use = codes "use "
tree_word TreeKind.Split = codes "split "
tree_word TreeKind.Absurd = codes "absurd "

-- the kind whose word is at the place, with the place after it; None exactly where no kind's word
-- is there
abbrev pub ReadsTreeKind : List ℕ → ℕ → Option (TreeKind × ℕ) → Type 0
ReadsTreeKind bytes at (Some read) = Skips (tree_word read.0) bytes at (Some read.1)
ReadsTreeKind bytes at None =
    (kind : TreeKind) (left : List ℕ) → ¬ (drop at bytes ≡ tree_word kind ++ left)

-- the number of a rule and its certificates
abbrev pub uses : Format (ℕ × List Cert)
uses = pairs numbers certificate_lists

-- two trees that are at most so deep
abbrev pub branches_within : ℕ → Format (CoverTree × CoverTree)
branches_within most = pairs (trees_within most) (trees_within most)

-- a row, and two trees that are at most so deep
abbrev pub splits_within : ℕ → Format (Row × (CoverTree × CoverTree))
splits_within most = pairs (word row_format) (branches_within most)

-- what was read, as a tree of its kind
abbrev pub as_use : Option ((ℕ × List Cert) × ℕ) → Option (CoverTree × ℕ)
as_use found = option_map (λ read. (made.Use read.0.0 read.0.1, read.1)) found

abbrev pub as_split : Option ((Row × (CoverTree × CoverTree)) × ℕ) → Option (CoverTree × ℕ)
as_split found = option_map (λ read. (made.Split read.0.0 read.0.1.0 read.0.1.1, read.1)) found

abbrev pub as_absurd : Option (Cert × ℕ) → Option (CoverTree × ℕ)
as_absurd found = option_map (λ read. (made.Absurd read.0, read.1)) found
