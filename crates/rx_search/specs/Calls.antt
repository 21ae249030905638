-- Nodes as calls have them, whose steps have certificates: what is seen of them, and where a step
-- or a choice leads.
use Rattle.std.specs.Prelude.{◌==◌, ◌||◌, if◌then◌else◌, ℕ, Bool, Option, Some, None, List, [], ◌∷◌, ◌++◌, map, slice_get}
use Rattle.rx_term.specs.declared.rule.Equation.{Equation}
use Rattle.rx_inference.specs.States.{State}
use Rattle.rx_inference.specs.declared.step.Step.{Step}
use Rattle.rx_steps.specs.Alone.{alone}
use Rattle.rx_moves.specs.Moves.{move_of}
use Rattle.rx_search.specs.NodeNodes as nodes
use Rattle.rx_search.specs.declared.node.Node.{Node}
use Rattle.rx_rank.specs.declared.attempt.Attempt.{Attempt}
use Rattle.rx_search.specs.declared.node_choices.Choices.{Choices}
use Rattle.rx_deepening.specs.declared.tree.Choice.{Choice}

-- what is seen of a node: the moves of its steps
abbrev pub node_of : Node → nodes.Node
node_of node = record { moves = map move_of node.steps; state = node.state; left = node.left }

-- the node with no steps, whose settling may take so many
abbrev pub started : Equation → ℕ → Node
started goal left = record { steps = []; state = alone goal; left = left }

-- the node with one more step, which made this state; its settling may take so many
abbrev pub with_step : ℕ → Node → Step → State → Node
with_step left from step state =
    record { steps = from.steps ++ step ∷ []; state = state; left = left }

-- the goal at which there are choices: the first, unless settling took all moves
abbrev pub open_goal : Node → Option Equation
open_goal node = if node.left == 0 then None else slice_get node.state.goals 0

-- what comes of a step that was taken, or of none
abbrev pub led : ℕ → Node → Option Step → Bool → State → Attempt Node
led left from None noted state = record { made = None; noted = noted }
led left from (Some step) noted state =
    record { made = Some (with_step left from step state); noted = noted }

-- one more choice
abbrev pub choice_of : ℕ → Option Node → List (Choice Node)
choice_of number None = []
choice_of number (Some node) = record { number = number; node = node } ∷ []

abbrev pub with_choice : Choices → ℕ → Attempt Node → Choices
with_choice found number trial = record {
  choices = found.choices ++ choice_of number trial.made;
  noted = found.noted || trial.noted;
}
