-- Nodes of the wider search, and what leads from one to another: moves one after another, the last
-- of them where ranks are found with the hypotheses that were kept.
use Rattle.std.specs.Prelude.{ℕ, ◌==◌, ◌++◌, Bool, true, if◌then◌else◌, Option, Some, None, List, [], ◌∷◌, length, option_and_then}
use Rattle.rx_term.specs.declared.rule.Equation.{Equation}
use Rattle.rx_term.specs.declared.rule.Rule.{Rule}
use Rattle.rx_term.specs.declared.rule_set.RuleParts.{RuleParts}
use Rattle.rx_inference.specs.States.{State}
use Rattle.rx_inference.specs.declared.step.Side.{Side}
use Rattle.rx_rank.specs.Ranking.{ranked}
use Rattle.rx_rank.specs.declared.kind.RankingKind.{RankingKind}
use Rattle.rx_moves.specs.Moves.{Move}
use Rattle.rx_moves.specs.Trying.{Next, attempt}
use Rattle.rx_settle.specs.Settling.{most_moves}
use Rattle.rx_settle.specs.Tasks.{tasks_after}
use Rattle.rx_shapes.specs.Shown.{is_yes}
use Rattle.rx_settle.specs.declared.tasked.Tasked.{Tasked}

-- a node: the moves from the start, the state after them with a task for each goal, and how many
-- more moves its settling might have made
pub record Node : Type 0 where
  pub moves : List Move
  pub at : Tasked
  pub left : ℕ

-- no goal is left
abbrev pub is_closed : List Equation → Bool
is_closed goals = length goals == 0

-- ---- moves one after another

-- the state after them, where each applies
abbrev pub after_moves : RuleParts → State → List Move → Option State
after_moves parts state [] = Some state
after_moves parts state (move ∷ moves) =
    option_and_then (λ (next : Next). after_moves parts next.state moves)
    (attempt parts state move).made

-- ---- ranks

-- ranks are found with the hypotheses
abbrev pub has_ranks : RankingKind → RuleParts → List Rule → Bool
has_ranks kind parts hypotheses = is_yes (ranked kind parts hypotheses)

-- the state, where ranks are found with its hypotheses
abbrev pub if_ranked : RankingKind → RuleParts → State → Option State
if_ranked kind parts state = if has_ranks kind parts state.hypotheses then Some state else None

-- a hypothesis is kept only where ranks are found with it
abbrev pub is_fit : RankingKind → RuleParts → Bool → List Rule → Bool
is_fit kind parts keeps hypotheses = if keeps then has_ranks kind parts hypotheses else true

abbrev pub if_fit : RankingKind → RuleParts → Bool → State → Option State
if_fit kind parts keeps state =
    if is_fit kind parts keeps state.hypotheses then Some state else None

-- ---- where moves lead

-- the node after moves that made this state, whose new goals have this task; its settling may take
-- all moves
abbrev pub node_with : Node → List Move → List Side → State → Node
node_with node moves task state = record {
  moves = node.moves ++ moves;
  at = record {
    state = state;
    tasks = tasks_after task node.at.tasks (length node.at.state.goals) (length state.goals);
  };
  left = most_moves;
}
