-- What the trees that are found are like.
use Rattle.std.specs.Prelude.{◌≡◌, ◌≤◌, ℕ, nat_le, Bool, true, ◌&&◌, List}
use Rattle.std.specs.List.{list_all}
use Rattle.rx_row.specs.declared.row.Row.{Row}
use Rattle.rx_cert.specs.Depth.{cert_depth}
use Rattle.rx_cert.specs.Findings.{Yes}
use Rattle.rx_cert.specs.Variables.{cert_passes, row_passes, rows_pass}
use Rattle.rx_cert.specs.declared.cert.Cert.{Cert}
use Rattle.rx_term.specs.Shapes.{Shape}
use Rattle.rx_term.specs.declared.rule.Rule.{Rule}
use Rattle.rx_cover.specs.Depth.{tree_depth}
use Rattle.rx_cover.specs.Trees.{tree_finding}
use Rattle.rx_cover.specs.declared.cover_tree.CoverTree.{CoverTree}
use Rattle.rx_cover.specs.declared.cover_tree.CoverTree.TheOpen.{CoverTree-F}
use Rattle.rx_cover.specs.declared.cover_tree.CoverTree.TheFolds.{fold-CoverTree}
use Rattle.rx_cover.specs.declared.cover_tree.CoverTree.TheVariants.{Use}
use Rattle.rx_solve.specs.Answers.{AreCertificates}

-- all rows that a tree splits by pass the one test, and all its certificates the other
abbrev pub passes_level : (Row → Bool) → (Cert → Bool) → CoverTree-F Bool → Bool
passes_level row_test cert_test (CoverTree-F.Use rule certs) = list_all cert_test certs
passes_level row_test cert_test (CoverTree-F.Split row holds fails) =
    row_test row && (holds && fails)
passes_level row_test cert_test (CoverTree-F.Absurd cert) = cert_test cert

abbrev pub tree_passes : (Row → Bool) → (Cert → Bool) → CoverTree → Bool
tree_passes row_test cert_test = fold-CoverTree Bool (passes_level row_test cert_test)

-- the certificate is at most 174 deep
abbrev pub is_cert_deep : Cert → Bool
is_cert_deep cert = nat_le (cert_depth cert) 174

-- all variables of the tree pass the test
abbrev pub tree_variables_pass : (ℕ → Bool) → CoverTree → Bool
tree_variables_pass test = tree_passes (row_passes test) (cert_passes test)

-- those of the rules' rows do
abbrev pub rules_pass : (ℕ → Bool) → List Rule → Bool
rules_pass test rules = list_all (λ (r : Rule). rows_pass test r.rows) rules

-- it is at most so deep, its certificates at most 174; it has no variables but those of the path
-- and of the rules
pub record IsSmall (rules : List Rule) (most : ℕ) (path : List Row) (tree : CoverTree) : Type 0
  where
    pub deep : tree_depth tree ≤ most
    pub certs_deep : tree_passes (λ row. true) is_cert_deep tree ≡ true
    pub own_variables : (test : ℕ → Bool) → rows_pass test path ≡ true → rules_pass test rules ≡
        true → tree_variables_pass test tree ≡ true

-- and it shows its shape at the path
pub record IsTree (rules : List Rule) (shape : Shape) (most : ℕ) (path : List Row)
    (tree : CoverTree) : Type 0 where
  pub shows : tree_finding rules shape tree path ≡ Yes
  pub small : IsSmall rules most path tree

-- ---- parts of a tree that is built

-- the variables of the row are those of the rules
pub record IsOwnRow (rules : List Rule) (row : Row) : Type 0 where
  pub passes : (test : ℕ → Bool) → rules_pass test rules ≡ true → row_passes test row ≡ true

-- the tree uses the rule of that number, with certificates by which its rows follow from the path's
pub record IsUse (number : ℕ) (path rows : List Row) (tree : CoverTree) : Type 0 where
  pub certs : List Cert
  pub is : tree ≡ Use number certs
  pub proved : AreCertificates 174 path rows certs
