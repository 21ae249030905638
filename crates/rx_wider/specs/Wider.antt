-- What the wider search comes to: the moves of the first closed node. The visits start from the goal
-- behind the lemmas on tail calls, and then from the goal without its rows, where it is inside the
-- domains without them.
use Rattle.std.specs.Prelude.{ℕ, ◌==◌, ◌&&◌, Bool, if◌then◌else◌, min, Option, Some, None, List, [], ◌∷◌, ◌++◌, option_and_then, option_map, slice_get}
use Rattle.std.specs.List.{filter_map, list_all}
use Rattle.std.specs.Option.{option_map_or, option_or}
use Rattle.rx_row.specs.declared.row.Row.{Row}
use Rattle.rx_cert.specs.Conditions.{is_plain_row}
use Rattle.rx_term.specs.Domains.{inside_of}
use Rattle.rx_term.specs.declared.rule.Equation.{Equation}
use Rattle.rx_term.specs.declared.rule.Rule.{Rule}
use Rattle.rx_term.specs.declared.rule_set.RuleParts.{RuleParts}
use Rattle.rx_inference.specs.States.{State}
use Rattle.rx_moves.specs.Moves.{Generalise, Move}
use Rattle.rx_rank.specs.declared.kind.RankingKind.{RankingKind}
use Rattle.rx_settle.specs.Settling.{most_moves}
use Rattle.rx_settle.specs.Tasks.{TaskedSettled, descendants, settle_tasked}
use Rattle.rx_deepening.specs.Outcomes.{outcome}
use Rattle.rx_deepening.specs.Visits.{all_visits}
use Rattle.rx_deepening.specs.declared.outcome.Outcome.{Outcome}
use Rattle.rx_deepening.specs.declared.outcome.Outcome.TheVariants as outcomes
use Rattle.rx_deepening.specs.declared.tree.Choice.{Choice}
use Rattle.rx_deepening.specs.declared.tree.Menu.{Menu}
use Rattle.rx_deepening.specs.declared.tree.Settled.{Settled}
use Rattle.rx_wider.specs.Menu.{candidates, led}
use Rattle.rx_wider.specs.Nodes.{Node, after_moves, is_closed}
use Rattle.rx_wider.specs.Tails.{Opening, goal_under, with_lemmas}
use Rattle.rx_wider.specs.declared.candidates.Candidate.{Candidate}

-- ---- nodes

-- the node after its settling; nothing is noted
abbrev pub settled_after : Node → TaskedSettled → Settled Node (Unit {0})
settled_after node s = record {
  node = record { moves = node.moves ++ s.moves; at = s.after; left = s.left };
  closed = is_closed s.after.state.goals;
  note = None;
}

-- a choice that applies
abbrev pub child : RankingKind → RuleParts → Node → Candidate → Option (Choice Node)
child kind parts node c =
    option_map (λ next. record { number = c.number; node = next }) (led kind parts node c)

abbrev pub menu_of : List (Choice Node) → Menu Node (Unit {0})
menu_of choices = record { choices = choices; note = None }

-- the goal at which there are choices: the first, unless settling took all moves
abbrev pub open_goal : Node → Option Equation
open_goal node = if node.left == 0 then None else slice_get node.at.state.goals 0

-- the node is settled by 200 moves at most
abbrev pub settled : RuleParts → Node → Settled Node (Unit {0})
settled parts node = settled_after node (settle_tasked parts most_moves node.at)

-- its choices, where these lemmas stand before all
abbrev pub menu : RankingKind → RuleParts → List Rule → Node → Menu Node (Unit {0})
menu kind parts tails node =
    menu_of (option_map_or
    (λ goal. filter_map (child kind parts node)
    (candidates parts (descendants parts tails) goal)) (open_goal node) [])

-- ---- the search

-- at most so many nodes are visited from a start
abbrev pub most_visits : ℕ
most_visits = 200

abbrev pub closed_moves : Outcome Node (Unit {0}) → Option (List Move)
closed_moves (outcomes.Closed node) = Some node.moves
closed_moves (outcomes.Noted note) = None
closed_moves outcomes.Spent = None
closed_moves outcomes.Through = None

-- the goal alone behind the opening, without a task
abbrev pub start : Opening → Equation → Node
start opening goal = record {
  moves = opening.moves;
  at = record { state = goal_under opening.hypotheses goal; tasks = [] ∷ [] };
  left = most_moves;
}

abbrev pub nothing : Opening
nothing = record { moves = []; hypotheses = [] }

-- the same sides without rows
abbrev pub bare : Equation → Equation
bare goal = record goal { rows = [] }

-- nothing has to be shown for the rows to hold, even under none
abbrev pub are_plain : List Row → Bool
are_plain rows = list_all (is_plain_row []) rows

module _ (parts : RuleParts) where
  -- so of the rows that put the sides of the goal inside the domains; these keep the limits
  abbrev pub is_inside_bare : Equation → Bool
  is_inside_bare goal = (inside_of parts goal).within && are_plain (inside_of parts goal).form

  -- the goal is generalised to the same sides without rows
  abbrev pub generalised_bare : Equation → Option Opening
  generalised_bare goal =
      option_map (λ (state : State). record {
        moves = Generalise (bare goal) [] ∷ [];
        hypotheses = state.hypotheses;
      }) (after_moves parts (goal_under [] goal) (Generalise (bare goal) [] ∷ []))

  -- the opening of the goal without its rows, where it is inside without them
  abbrev pub bare_opening : Equation → Option Opening
  bare_opening goal = if is_inside_bare goal then generalised_bare goal else None

module _ (kind : RankingKind) (parts : RuleParts) (depth budget : ℕ) where
  -- the moves of the first closed node among the first visits
  abbrev pub found_behind : Opening → Equation → Option (List Move)
  found_behind opening goal =
      closed_moves (outcome (min budget most_visits)
      (all_visits (settled parts) (menu kind parts opening.hypotheses) depth (start opening goal)))

  -- so from the goal behind the lemmas on tail calls, that come after the opening
  abbrev pub found_from : Equation → Opening → Option (List Move)
  found_from goal opening = found_behind (with_lemmas kind parts goal opening) goal

  -- from the goal without rows, where it has some
  abbrev pub found_bare : Equation → List Row → Option (List Move)
  found_bare goal [] = None
  found_bare goal (row ∷ rows) =
      option_and_then (found_from (bare goal)) (bare_opening parts goal)

-- from the goal; where no node is closed then, from the goal without rows
abbrev pub wider : RankingKind → RuleParts → Equation → ℕ → ℕ → Option (List Move)
wider kind parts goal depth budget =
    option_or (found_from kind parts depth budget goal nothing)
    (found_bare kind parts depth budget goal goal.rows)
