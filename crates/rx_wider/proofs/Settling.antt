-- A node once it is settled, and the menu there.
use Rattle.std.proofs.Common.{◌≡◌, ◌∙◌, Bool, Option, Some, None, List, [], ◌++◌, map, sym, ap, subst}
use Rattle.std.specs.List.{filter_map}
use Rattle.std.specs.Option.{option_map_or}
use Rattle.std.proofs.lemmas.List.{map-append}
use Rattle.rx_deepening.specs.Views.{seen_choice, seen_menu, seen_settled}
use Rattle.rx_deepening.specs.declared.tree.Choice.{Choice}
use Rattle.rx_deepening.specs.declared.tree.Menu.{Menu}
use Rattle.rx_term.specs.declared.rule.Equation.{Equation}
use Rattle.rx_term.specs.declared.rule.Rule.{Rule}
use Rattle.rx_term.specs.declared.rule_set.RuleParts.{RuleParts}
use Rattle.rx_inference.specs.declared.step.Step.{Step}
use Rattle.rx_rank.specs.Ranking.{ranked}
use Rattle.rx_rank.specs.declared.kind.RankingKind.{RankingKind}
use Rattle.rx_moves.specs.Moves.{move_of}
use Rattle.rx_settle.specs.Settling.{most_moves}
use Rattle.rx_settle.specs.TaskAnswers.{AreTaskedSteps}
use Rattle.rx_settle.specs.Tasks.{descendants, settle_tasked}
use Rattle.rx_settle.specs.declared.tasked.Tasked.{Tasked}
use Rattle.rx_settle.specs.declared.tasks.TaskedSteps.{TaskedSteps}
use Rattle.rx_settle.proofs.ReachedLaws.{reached_more}
use Rattle.rx_wider.specs.Calls.{node_of}
use Rattle.rx_wider.specs.Menu.{candidates}
use Rattle.rx_wider.specs.Nodes.{is_closed}
use Rattle.rx_wider.specs.Nodes as nodes
use Rattle.rx_wider.specs.Reached.{IsNode}
use Rattle.rx_wider.specs.Wider.{child, menu, menu_of, open_goal, settled}
use Rattle.rx_wider.specs.declared.node.Node.{Node}

-- ---- settling

module _ (parts : RuleParts) (node : Node) (new : Tasked) (found : TaskedSteps)
    (is : AreTaskedSteps parts node.at new (settle_tasked parts most_moves node.at) found) where
  abbrev pub after : List Step → Node
  after steps = record { steps = steps; at = new; left = found.left }

  -- it is seen as the definition says
  pub settled_seen : (steps : List Step) (closed : Bool) → steps ≡ node.steps ++ found.steps →
      closed ≡ is_closed new.state.goals →
      seen_settled node_of (record { node = after steps; closed = closed; note = None }) ≡
      settled parts (node_of node)
  settled_seen steps closed same none =
      let s = settle_tasked parts most_moves node.at in
      let moves : map move_of steps ≡ map move_of node.steps ++ s.moves =
      ap (map move_of) same ∙ map-append move_of node.steps found.steps ∙
      ap (λ ms. map move_of node.steps ++ ms) is.moves in
      let goals : closed ≡ is_closed s.after.state.goals = none ∙
      ap (λ (at : Tasked). is_closed at.state.goals) is.after in
      λ i. record {
        node = record { moves = moves i; at = is.after i; left = is.left i };
        closed = goals i;
        note = None;
      }

  -- and it is a node of the search
  pub settled_node : (kind : RankingKind) (goal : Equation)
      (steps : List Step) → steps ≡ node.steps ++ found.steps →
      new.state.hypotheses ≡ node.at.state.hypotheses → IsNode kind parts goal node →
      IsNode kind parts goal (after steps)
  settled_node kind goal steps same hypotheses old =
      subst (λ (xs : List Step). IsNode kind parts goal (after xs)) (sym same) (record {
        reached =
            reached_more parts goal node.steps node.at.state old.reached found.steps new.state
            is.applies is.deep;
        ranked = ap (ranked kind parts) hypotheses ∙ old.ranked;
      })

-- ---- the menu

module _ (kind : RankingKind) (parts : RuleParts) (tails : List Rule) (node : Node) where
  abbrev menu_at : Option Equation → Menu nodes.Node (Unit {0})
  menu_at o =
      menu_of (option_map_or (λ (goal : Equation). filter_map (child kind parts (node_of node))
      (candidates parts (descendants parts tails) goal)) o [])

  -- there are no choices
  pub no_menu : open_goal (node_of node) ≡ None →
      record { choices = []; note = None } ≡ menu kind parts tails (node_of node)
  no_menu e = sym (ap menu_at e)

  -- those that were found
  pub menu_found : (goal : Equation) (found : List (Choice Node)) →
      open_goal (node_of node) ≡ Some goal →
      map (seen_choice node_of) found ≡ filter_map (child kind parts (node_of node))
      (candidates parts (descendants parts tails) goal) →
      seen_menu node_of (record { choices = found; note = None }) ≡
      menu kind parts tails (node_of node)
  menu_found goal found e is =
      (λ i. record { choices = is i; note = None }) ∙ sym (ap menu_at e)
