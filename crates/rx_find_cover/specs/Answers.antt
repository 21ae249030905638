-- What the answers of a search for trees say.
use Rattle.std.specs.Prelude.{◌≡◌, ℕ, All, is_some, List, [], length}
use Rattle.std.specs.List.{flat_map}
use Rattle.rx_cert.specs.Findings.{Yes}
use Rattle.rx_row.specs.declared.row.Row.{Row}
use Rattle.rx_term.specs.Shapes.{Shape}
use Rattle.rx_term.specs.declared.rule.Rule.{Rule}
use Rattle.rx_term.specs.declared.rule_set.RuleParts.{RuleParts}
use Rattle.rx_cover.specs.Covering.{Covers, covering, in_turn}
use Rattle.rx_cover.specs.declared.cover_tree.CoverTree.{CoverTree}
use Rattle.rx_find_cover.specs.Coverage.{Coverage}
use Rattle.rx_find_cover.specs.Trees.{IsSmall}
use Rattle.rx_find_cover.specs.declared.built.Built.{Built}

-- whether a tree was found, and whether something was noted
abbrev pub outcome : {A : Type 0} → Built A → Coverage
outcome {A} b = record { covered = is_some b.made; noted = b.noted }

-- the rows of all domains
abbrev pub domain_rows : RuleParts → List Row
domain_rows parts = flat_map (λ (rows : List Row). rows) parts.domains

-- each tree of a list is at most 33 deep, its certificates at most 174, and it has no variables
-- but those of the rules and of the domains
abbrev pub AreSmall : RuleParts → List CoverTree → Type 0
AreSmall parts trees = All (IsSmall parts.rules 33 (domain_rows parts)) trees

-- trees that show the shapes at the path, one each
pub record AreTrees (rules : List Rule) (path : List Row) (shapes : List Shape)
    (trees : List CoverTree) : Type 0 where
  pub shows : in_turn rules path shapes trees ≡ Yes
  pub count : length trees ≡ length shapes
  pub small : All (IsSmall rules 33 path) trees

-- lists that cover the rule set
pub record IsCover (parts : RuleParts) (lists : List (List CoverTree)) : Type 0 where
  pub covers : covering parts lists ≡ Covers
  pub small : All (AreSmall parts) lists
