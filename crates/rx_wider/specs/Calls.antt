-- Nodes and openings as calls have them, whose steps have certificates: what is seen of them.
use Rattle.std.specs.Prelude.{◌++◌, Option, Some, None, List, length, map}
use Rattle.rx_inference.specs.States.{State}
use Rattle.rx_inference.specs.declared.step.Side.{Side}
use Rattle.rx_inference.specs.declared.step.Step.{Step}
use Rattle.rx_moves.specs.Moves.{Move, move_of}
use Rattle.rx_settle.specs.Settling.{most_moves}
use Rattle.rx_settle.specs.Tasks.{tasks_after}
use Rattle.rx_deepening.specs.declared.outcome.Outcome.{Outcome}
use Rattle.rx_deepening.specs.declared.outcome.Outcome.TheVariants as outcomes
use Rattle.rx_wider.specs.Nodes as nodes
use Rattle.rx_wider.specs.Tails as tails
use Rattle.rx_wider.specs.declared.node.Node.{Node}
use Rattle.rx_wider.specs.declared.opening.Begun.{Begun}

-- what is seen of a node: the moves of its steps
abbrev pub node_of : Node → nodes.Node
node_of node = record { moves = map move_of node.steps; at = node.at; left = node.left }

-- what is seen of an opening: the moves of its steps, and the hypotheses of its state
abbrev pub opening_of : Begun → tails.Opening
opening_of begun =
    record { moves = map move_of begun.steps; hypotheses = begun.state.hypotheses }

-- the node after steps that made this state, whose new goals have this task
abbrev pub with_steps : Node → List Step → List Side → State → Node
with_steps node steps task state = record {
  steps = node.steps ++ steps;
  at = record {
    state = state;
    tasks = tasks_after task node.at.tasks (length node.at.state.goals) (length state.goals);
  };
  left = most_moves;
}

-- the moves of a node
abbrev pub moves_of : Node → List Move
moves_of node = map move_of node.steps

-- the closed node of an outcome
abbrev pub closed_of : Outcome Node (Unit {0}) → Option Node
closed_of (outcomes.Closed node) = Some node
closed_of (outcomes.Noted note) = None
closed_of outcomes.Spent = None
closed_of outcomes.Through = None
