-- A cover tree shows that at all arguments some rule of one shape applies: it splits by rows, and
-- at each of its leaves a rule's rows follow from those on the path to it, or the path's rows can't
-- all hold. Parts are examined from left to right, and the first that fails or passes the limits
-- decides.
use Rattle.std.specs.Prelude.{if◌then◌else◌, Option, Some, None, List, [], ◌∷◌, ◌++◌, slice_get}
use Rattle.rx_row.specs.Negation.{negation, negation_within}
use Rattle.rx_row.specs.declared.row.Row.{Row}
use Rattle.rx_cert.specs.Conditions.{conditions, is_shown}
use Rattle.rx_cert.specs.Examination.{verdict}
use Rattle.rx_cert.specs.Findings.{Said, Yes, No, Beyond, and_also, guard}
use Rattle.rx_cert.specs.declared.cert.Cert.{Cert}
use Rattle.rx_term.specs.Shapes.{Shape, same_shape, shape_of}
use Rattle.rx_term.specs.declared.rule.Rule.{Rule}
use Rattle.rx_cover.specs.declared.cover_tree.CoverTree.{CoverTree}
use Rattle.rx_cover.specs.declared.cover_tree.CoverTree.TheOpen.{CoverTree-F}
use Rattle.rx_cover.specs.declared.cover_tree.CoverTree.TheFolds.{fold-CoverTree}

-- the rule is there and has the shape, and its rows follow from those of the path
abbrev pub use_finding : Shape → Option Rule → List Row → List Cert → Said
use_finding shape None path certs = No
use_finding shape (Some rule) path certs =
    if same_shape (shape_of rule.left) shape then
    is_shown (conditions path (Some rule.rows) certs) else No

-- what a tree is found to show at a path, from what the trees inside are; the negation of a split's
-- row is formed when its branch is examined
abbrev pub tree_level : List Rule → Shape → CoverTree-F (List Row → Said) → List Row → Said
tree_level rules shape (CoverTree-F.Use rule certs) path =
    use_finding shape (slice_get rules rule) path certs
tree_level rules shape (CoverTree-F.Split row holds fails) path =
    and_also (holds (path ++ row ∷ [])) (guard (negation_within row)
    (fails (path ++ negation row ∷ [])))
tree_level rules shape (CoverTree-F.Absurd cert) path = verdict path cert

-- whether the tree shows that at the path some rule of the shape applies
abbrev pub tree_finding : List Rule → Shape → CoverTree → List Row → Said
tree_finding rules shape = fold-CoverTree (List Row → Said) (tree_level rules shape)
