-- The menu: the choices that were found, or none.
use Rattle.std.proofs.Common.{◌≡◌, Bool, true, false, if◌then◌else◌, Option, Some, None, List, [], ◌∷◌, refl, sym, ap, subst, ◌∙◌}
use Rattle.std.specs.Prelude.{◌==◌, slice_get}
use Rattle.std.specs.List.{filter_map}
use Rattle.rx_row.specs.declared.row.Row.{Row}
use Rattle.rx_rank.specs.declared.kind.RankingKind.{RankingKind}
use Rattle.rx_term.specs.declared.rule.Equation.{Equation}
use Rattle.rx_term.specs.declared.rule_set.RuleParts.{RuleParts}
use Rattle.rx_settle.specs.Settling.{rows_if}
use Rattle.rx_search.specs.Menu.{chosen_at, chosen_first, is_any_noted}
use Rattle.rx_search.specs.Calls.{node_of, open_goal}
use Rattle.rx_search.specs.Nodes.{AreChoices}
use Rattle.rx_search.specs.NodeNodes as nodes
use Rattle.rx_search.specs.Search.{child, menu}
use Rattle.rx_search.specs.declared.node_choices.Choices.{Choices}
use Rattle.rx_search.specs.declared.node.Node.{Node}
use Rattle.rx_deepening.specs.Views.{seen_menu}
use Rattle.rx_deepening.specs.declared.tree.Menu.{Menu}

abbrev Seen : Type 0
Seen = Menu nodes.Node (List Row)

abbrev none : Seen
none = record { choices = []; note = None }

-- where the first goal is open it is the first
first_by : (node : Node) (first : Equation) (b : Bool) → (if b then None else
    slice_get node.state.goals 0) ≡ Some first → Some first ≡ slice_get node.state.goals 0
first_by node first true e = cc
first_by node first false e = sym e

pub first_open : (node : Node) (first : Equation) → open_goal node ≡ Some first → Some first ≡
    slice_get node.state.goals 0
first_open node first e = first_by node first (node.left == 0) e

module _ (kind : RankingKind) (parts : RuleParts) (node : Node) where
  -- the menu by the goals of the state
  abbrev by_goals : List Equation → Seen
  by_goals goals = record {
    choices = filter_map (child (node_of node)) (chosen_first kind parts node.state goals);
    note = rows_if (is_any_noted (chosen_first kind parts node.state goals)) goals;
  }

  none_by : (b : Bool) (goals : List Equation) → (node.left == 0) ≡ b → node.state.goals ≡ goals
      → (if b then None else slice_get goals 0) ≡ None → none ≡ menu kind parts (node_of node)
  none_by true goals is same over = ap (λ b. if b then none else by_goals node.state.goals) (sym is)
  none_by false [] is same over =
      ap by_goals (sym same) ∙ ap (λ b. if b then none else by_goals node.state.goals) (sym is)
  none_by false (goal ∷ goals) is same over = absurd cc

  -- there are no choices
  pub menu_over : open_goal node ≡ None → none ≡ menu kind parts (node_of node)
  menu_over over = none_by (node.left == 0) node.state.goals refl refl over

  found_at : (first : Equation) (goals : List Equation) (found : Choices) (rows : Option (List Row))
      → slice_get goals 0 ≡ Some first
      → AreChoices node (chosen_at kind parts node.state first) found → rows ≡
      rows_if found.noted goals
      → seen_menu node_of (record { choices = found.choices; note = rows }) ≡ by_goals goals
  found_at first [] found rows some are is = absurd cc
  found_at first (goal ∷ goals) found rows some are is =
      let same : first ≡ goal = cc in
      let these = subst (λ goal. AreChoices node
      (chosen_at kind parts node.state goal) found) same are
      in
      let noted = is ∙ ap (λ b. rows_if b (goal ∷ goals)) these.noted in
      λ i. record { choices = these.choices i; note = noted i }

  found_by : (b : Bool) (first : Equation) (found : Choices) (rows : Option (List Row)) →
      (node.left == 0) ≡ b
      → (if b then None else slice_get node.state.goals 0) ≡ Some first
      → AreChoices node (chosen_at kind parts node.state first) found → rows ≡
      rows_if found.noted node.state.goals
      → seen_menu node_of (record { choices = found.choices; note = rows }) ≡
      menu kind parts (node_of node)
  found_by true first found rows left some are is = absurd cc
  found_by false first found rows left some are is =
      found_at first node.state.goals found rows some are is ∙
      ap (λ b. if b then none else by_goals node.state.goals) (sym left)

  -- what was found
  pub menu_found : (first : Equation) (found : Choices) (rows : Option (List Row)) →
      open_goal node ≡ Some first
      → AreChoices node (chosen_at kind parts node.state first) found → rows ≡
      rows_if found.noted node.state.goals
      → seen_menu node_of (record { choices = found.choices; note = rows }) ≡
      menu kind parts (node_of node)
  menu_found first found rows some are is =
      found_by (node.left == 0) first found rows refl some are is
