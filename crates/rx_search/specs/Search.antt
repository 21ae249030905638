-- What a search comes to: the set that it begins with, then the visits within the budget, each node
-- settled and its choices tried.
use Rattle.std.specs.Prelude.{ℕ, ◌==◌, if◌then◌else◌, Bool, true, false, Option, None, List, [], ◌++◌}
use Rattle.std.specs.List.{filter_map}
use Rattle.std.specs.Option.{option_map}
use Rattle.rx_row.specs.declared.row.Row.{Row}
use Rattle.rx_rank.specs.declared.kind.RankingKind.{RankingKind}
use Rattle.rx_term.specs.declared.rule.Equation.{Equation}
use Rattle.rx_term.specs.declared.rule_set.RuleParts.{RuleParts}
use Rattle.rx_moves.specs.Moves.{Move}
use Rattle.rx_settle.specs.Settling.{most_moves, rows_if, settle}
use Rattle.rx_settle.specs.Settling as settling
use Rattle.rx_search.specs.Beginning.{Beginning, Over, Unranked, beginning, set_of}
use Rattle.rx_search.specs.NodeNodes.{Node, is_closed, node_with}
use Rattle.rx_search.specs.NodeNodes as nodes
use Rattle.rx_search.specs.Menu.{Chosen, chosen, is_any_noted}
use Rattle.rx_deepening.specs.Outcomes.{outcome}
use Rattle.rx_deepening.specs.Visits.{all_visits}
use Rattle.rx_deepening.specs.declared.outcome.Outcome.{Outcome}
use Rattle.rx_deepening.specs.declared.outcome.Outcome.TheVariants as outcomes
use Rattle.rx_deepening.specs.declared.tree.Choice.{Choice}
use Rattle.rx_deepening.specs.declared.tree.Menu.{Menu}
use Rattle.rx_deepening.specs.declared.tree.Settled.{Settled}

-- ---- nodes

-- the node after its settling
abbrev pub node_after : Node → settling.Settled → Node
node_after node s = record { moves = node.moves ++ s.moves; state = s.state; left = s.left }

abbrev pub settled_after : Node → settling.Settled → Settled Node (List Row)
settled_after node s =
    record { node = node_after node s; closed = is_closed s.state.goals; note = s.note }

-- a choice that applies
abbrev pub child : Node → Chosen → Option (Choice Node)
child node c =
    option_map (λ next. record { number = c.number; node = node_with most_moves node next })
    c.tried.made

abbrev pub menu_of : Node → List Chosen → Menu Node (List Row)
menu_of node cs =
    record {
      choices = filter_map (child node) cs;
      note =
          rows_if (is_any_noted cs) node.state.goals;
    }

-- the node is settled by 200 moves at most
abbrev pub settled : RuleParts → Node → Settled Node (List Row)
settled parts node = settled_after node (settle parts most_moves node.state)

-- its choices; none where settling took all moves
abbrev pub menu : RankingKind → RuleParts → Node → Menu Node (List Row)
menu kind parts node =
    if node.left == 0 then record { choices = []; note = None } else
    menu_of node (chosen kind parts node.state)

-- ---- the search

-- what a search comes to: no set that has ranks and a cover; the rows of the goal, where the limits
-- are passed on the way to these; the moves of a proof; the rows of the goal at which the limits
-- were passed first, and the choices on the path to it; more visits than the budget; no plan of the
-- depth
pub data Searched : Type 0 where
  NoRanks : Searched
  LargeRanks : List Row → Searched
  Closed : List Move → Searched
  Large : List ℕ → List Row → Searched
  Spent : Searched
  NoPlan : Searched

abbrev pub of_outcome : Outcome Node (List Row) → Searched
of_outcome (outcomes.Closed node) = Closed node.moves
of_outcome (outcomes.Noted note) = Large note.path note.noted
of_outcome outcomes.Spent = Spent
of_outcome outcomes.Through = NoPlan

-- the goal alone, with no moves made
abbrev pub start : Equation → Node
start goal = nodes.start goal most_moves

-- what the visits come to, with rankings of this kind
abbrev pub visited : RankingKind → RuleParts → Equation → ℕ → ℕ → Searched
visited kind parts goal depth budget =
    of_outcome (outcome budget (all_visits (settled parts) (menu kind parts) depth (start goal)))

-- where no set has ranks, whether the limits were passed decides
abbrev pub unranked : Bool → Equation → Searched
unranked false goal = NoRanks
unranked true goal = LargeRanks goal.rows

-- where a set has ranks, the visits over it decide, and what was noted on the way to them counts
-- for nothing
abbrev pub searched_from : Beginning → RuleParts → Equation → ℕ → ℕ → Searched
searched_from (Over kind rows) parts goal depth budget =
    visited kind (set_of parts rows) goal depth budget
searched_from (Unranked noted) parts goal depth budget = unranked noted goal

abbrev pub searched : RuleParts → Equation → ℕ → ℕ → Searched
searched parts goal depth budget =
    searched_from (beginning parts goal) parts goal depth budget
