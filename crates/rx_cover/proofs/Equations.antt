-- What a tree of each kind is found to show, by what those inside it are; and how deep it is.
use Rattle.std.proofs.Common.{◌≡◌, ◌∙◌, ap, refl, ℕ, ◌+◌, max, List}
use Rattle.rx_cert.specs.declared.cert.Cert.{Cert}
use Rattle.rx_cert.specs.Findings.{Said}
use Rattle.rx_row.specs.declared.row.Row.{Row}
use Rattle.rx_term.specs.Shapes.{Shape}
use Rattle.rx_term.specs.declared.rule.Rule.{Rule}
use Rattle.rx_cover.specs.Depth.{depth_level, tree_depth}
use Rattle.rx_cover.specs.Trees.{tree_finding, tree_level}
use Rattle.rx_cover.specs.declared.cover_tree.CoverTree.{CoverTree, CoverTree-F, fold_out-CoverTree, out-CoverTree, map-CoverTree}
use Rattle.rx_cover.specs.declared.cover_tree.CoverTree.TheVariants.{Use, Split, Absurd, outs-Use, outs-Split, outs-Absurd}

finding_is : (rules : List Rule) (shape : Shape) (tree : CoverTree) (path : List Row) →
    tree_finding rules shape tree path
    ≡ tree_level rules shape (map-CoverTree CoverTree (List Row → Said) (tree_finding rules shape)
    (out-CoverTree tree)) path
finding_is rules shape tree path =
    ap (λ (g : List Row → Said). g path) (fold_out-CoverTree (List Row → Said)
    (tree_level rules shape) tree)

pub finding_use : (rules : List Rule) (shape : Shape) (number : ℕ) (certs : List Cert)
    (path : List Row) →
    tree_finding rules shape (Use number certs) path ≡
    tree_level rules shape (CoverTree-F.Use number certs) path
finding_use rules shape number certs path =
    finding_is rules shape (Use number certs) path ∙ rw (outs-Use number certs) refl

pub finding_split : (rules : List Rule) (shape : Shape) (row : Row) (first second : CoverTree)
    (path : List Row) →
    tree_finding rules shape (Split row first second) path
    ≡ tree_level rules shape (CoverTree-F.Split row (tree_finding rules shape first)
    (tree_finding rules shape second)) path
finding_split rules shape row first second path =
    finding_is rules shape (Split row first second) path ∙ rw (outs-Split row first second) refl

pub finding_absurd : (rules : List Rule) (shape : Shape) (cert : Cert) (path : List Row) →
    tree_finding rules shape (Absurd cert) path ≡
    tree_level rules shape (CoverTree-F.Absurd cert) path
finding_absurd rules shape cert path =
    finding_is rules shape (Absurd cert) path ∙ rw (outs-Absurd cert) refl

pub depth_is : (tree : CoverTree) → tree_depth tree ≡
    depth_level (map-CoverTree CoverTree ℕ tree_depth (out-CoverTree tree))
depth_is tree = fold_out-CoverTree ℕ depth_level tree

pub depth_split : (row : Row) (first second : CoverTree) → tree_depth (Split row first second) ≡ 1 +
    max (tree_depth first) (tree_depth second)
depth_split row first second =
    depth_is (Split row first second) ∙ rw (outs-Split row first second) refl
