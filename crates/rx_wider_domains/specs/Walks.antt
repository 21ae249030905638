-- The longer lists as walks over the goal and the rules make them: each row that is met goes to the
-- list of its group. They are those of `Lists`.
use Rattle.std.specs.Prelude.{ℕ, Option, List, [], length, replicate}
use Rattle.std.specs.List.{flat_map, fold}
use Rattle.std.specs.Option.{option_and_then, option_map_or}
use Rattle.rx_row.specs.declared.row.Row.{Row}
use Rattle.rx_pairs.specs.Pairs.{Part}
use Rattle.rx_term.specs.Meaning.{redex_of}
use Rattle.rx_term.specs.Stacks.{root_of}
use Rattle.rx_term.specs.declared.rule.Equation.{Equation}
use Rattle.rx_term.specs.declared.rule.Rule.{Rule}
use Rattle.rx_term.specs.declared.rule_set.RuleParts.{RuleParts}
use Rattle.rx_term.specs.declared.rule_set.SymInfo.{SymInfo}
use Rattle.rx_term.specs.declared.term.Sym.{Sym}
use Rattle.rx_term.specs.declared.term.Term.{Term}
use Rattle.rx_find_domains.specs.Parts.{occurrences_of}
use Rattle.rx_wider_domains.specs.Groups.{symbol_rows, with_rows}
use Rattle.rx_wider_domains.specs.Offers.{offers}
use Rattle.rx_wider_domains.specs.Signs.{signs}
use Rattle.rx_wider_domains.specs.declared.offering.Offering.{Offering}

-- a list for each symbol, without rows
abbrev pub no_rows : List SymInfo → List (List Row)
no_rows infos = replicate (length infos) []

module _ (names : List ℕ) where
  -- ---- rows with their signs

  -- the rows go to the symbol's group, if there is a symbol
  abbrev pub with_signs : List Row → List (List Row) → Option Sym → List (List Row)
  with_signs rows lists root =
      option_map_or (λ (f : Sym). with_rows names lists f.0 (flat_map signs rows)) root lists

  abbrev pub with_rule : List (List Row) → Rule → List (List Row)
  with_rule lists rule = with_signs rule.rows lists (root_of rule.left)

  -- those of the goal to the group of this side's redex
  abbrev pub with_side : Equation → List (List Row) → Term → List (List Row)
  with_side goal lists t = with_signs goal.rows lists (option_and_then root_of (redex_of t))

  abbrev pub with_goal : Equation → List (List Row) → List (List Row)
  with_goal goal lists = with_side goal (with_side goal lists goal.left) goal.right

  -- ---- what is offered at occurrences

  -- the rows go to the group of the symbol that stands there
  abbrev pub at_occurrence : Offering → List (List Row) → Part → List (List Row)
  at_occurrence offering lists at =
      with_rows names lists at.symbol.0 (offers names offering at)

  -- at each in the rule's right side
  abbrev pub at_rule : Offering → List (List Row) → Rule → List (List Row)
  at_rule offering lists rule =
      fold (at_occurrence offering) lists (occurrences_of rule.right)

  abbrev pub at_rules : Offering → List Rule → List (List Row) → List (List Row)
  at_rules offering rules lists = fold (at_rule offering) lists rules

  -- the rule's left root hands on the rows that it had before
  abbrev pub handing : List SymInfo → List (List Row) → List (List Row) → Rule → List (List Row)
  handing infos before lists rule =
      option_map_or (λ (f : Sym).
      at_rule (Offering.Handed f (symbol_rows names infos before f.0)) lists rule)
      (root_of rule.left) lists

  abbrev pub handed_on : RuleParts → List (List Row) → List (List Row)
  handed_on parts lists = fold (handing parts.symbols lists) lists parts.rules

  -- ---- all

  abbrev pub rows_listed : RuleParts → Equation → List (List Row)
  rows_listed parts goal = fold with_rule (with_goal goal (no_rows parts.symbols)) parts.rules

  abbrev pub offers_listed : RuleParts → Equation → List (List Row)
  offers_listed parts goal =
      at_rules Offering.Equations parts.rules
      (at_rules Offering.Numbers parts.rules (rows_listed parts goal))

  abbrev pub walked : RuleParts → Equation → List (List Row)
  walked parts goal = handed_on parts (handed_on parts (offers_listed parts goal))
