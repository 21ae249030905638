-- The longer lists of rows that domains may have, by group: first the rows of the goal, where a
-- redex of it is of the group, and of the rules whose left root is, all with their signs; then
-- numbers and equations at the group's symbols, and twice rows that are handed to these. Each row is
-- listed once.
use Rattle.std.specs.Prelude.{ℕ, Option, List, [], ◌++◌, if◌then◌else◌, length, map}
use Rattle.std.specs.List.{flat_map}
use Rattle.std.specs.Option.{option_and_then, option_map_or}
use Rattle.rx_plain.specs.Formed.{Formed}
use Rattle.rx_row.specs.declared.row.Row.{Row}
use Rattle.rx_anchors.specs.Members.{is_member, symbols_of}
use Rattle.rx_pairs.specs.Pairs.{Part}
use Rattle.rx_term.specs.Meaning.{redex_of}
use Rattle.rx_term.specs.Stacks.{root_of}
use Rattle.rx_term.specs.declared.rule.Equation.{Equation}
use Rattle.rx_term.specs.declared.rule.Rule.{Rule}
use Rattle.rx_term.specs.declared.rule_set.RuleParts.{RuleParts}
use Rattle.rx_term.specs.declared.rule_set.SymInfo.{SymInfo}
use Rattle.rx_term.specs.declared.term.Sym.{Sym}
use Rattle.rx_term.specs.declared.term.Term.{Term}
use Rattle.rx_find_domains.specs.Finding.{list_of}
use Rattle.rx_find_domains.specs.Groups.{groups}
use Rattle.rx_find_domains.specs.Parts.{occurrences_of}
use Rattle.rx_wider_domains.specs.Groups.{symbol_rows, taken}
use Rattle.rx_wider_domains.specs.Offers.{offers}
use Rattle.rx_wider_domains.specs.Signs.{signs}
use Rattle.rx_wider_domains.specs.declared.offering.Offering.{Offering}

-- ---- one group, which has that name

module _ (names : List ℕ) (g : ℕ) where
  -- the rows, where there is a symbol and it is of the group
  abbrev pub if_member : List (Formed Row) → Option Sym → List (Formed Row)
  if_member rows root =
      option_map_or (λ (f : Sym). if is_member names g f.0 then rows else []) root []

  -- those of the goal, for each side whose redex is of the group
  abbrev pub side_rows : Equation → Term → List (Formed Row)
  side_rows goal t = if_member (flat_map signs goal.rows) (option_and_then root_of (redex_of t))

  abbrev pub goal_rows : Equation → List (Formed Row)
  goal_rows goal = side_rows goal goal.left ++ side_rows goal goal.right

  -- those of a rule whose left root is
  abbrev pub rule_rows : Rule → List (Formed Row)
  rule_rows rule = if_member (flat_map signs rule.rows) (root_of rule.left)

  -- what is offered at the group's symbols in a rule's right side
  abbrev pub offered_at : Offering → Part → List (Formed Row)
  offered_at offering at =
      if is_member names g at.symbol.0 then offers names offering at else []

  abbrev pub offered_in : Offering → Rule → List (Formed Row)
  offered_in offering rule = flat_map (offered_at offering) (occurrences_of rule.right)

  abbrev pub offered : Offering → List Rule → List (Formed Row)
  offered offering rules = flat_map (offered_in offering) rules

  abbrev pub listed_rows : RuleParts → Equation → List Row
  listed_rows parts goal =
      taken [] (goal_rows goal ++ (flat_map rule_rows parts.rules
      ++ (offered Offering.Numbers parts.rules ++ offered Offering.Equations parts.rules)))

  -- what a rule hands to the group of the rows that its left root has in these lists
  abbrev pub handed_by : List SymInfo → List (List Row) → Rule → List (Formed Row)
  handed_by infos lists rule =
      option_map_or (λ (f : Sym).
      offered_in (Offering.Handed f (symbol_rows names infos lists f.0)) rule) (root_of rule.left)
      []

  abbrev pub handed_rows : RuleParts → List (List Row) → List Row
  handed_rows parts lists =
      taken (list_of lists g) (flat_map (handed_by parts.symbols lists) parts.rules)

-- ---- all groups

module _ (names : List ℕ) (parts : RuleParts) where
  abbrev pub listed : Equation → List (List Row)
  listed goal = map (λ g. listed_rows names g parts goal) (symbols_of (length parts.symbols))

  abbrev pub handed : List (List Row) → List (List Row)
  handed lists = map (λ g. handed_rows names g parts lists) (symbols_of (length parts.symbols))

  abbrev pub lists_by : Equation → List (List Row)
  lists_by goal = handed (handed (listed goal))

unfoldable pub wider_lists : RuleParts → Equation → List (List Row)
wider_lists parts goal = lists_by (groups parts) parts goal
