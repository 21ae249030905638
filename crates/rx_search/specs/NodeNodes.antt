-- Nodes of a search: what is seen of them.
use Rattle.std.specs.Prelude.{ℕ, Bool, true, false, List, [], ◌∷◌, ◌++◌}
use Rattle.rx_term.specs.declared.rule.Equation.{Equation}
use Rattle.rx_inference.specs.States.{State}
use Rattle.rx_steps.specs.Alone.{alone}
use Rattle.rx_moves.specs.Moves.{Move}
use Rattle.rx_moves.specs.Trying.{Next}

-- a node: the moves from the start, the state after them, and how many more moves its settling
-- might have made
pub record Node : Type 0 where
  pub moves : List Move
  pub state : State
  pub left : ℕ

-- no goal is left
abbrev pub is_closed : List Equation → Bool
is_closed [] = true
is_closed (goal ∷ goals) = false

-- the goal alone, with no moves made, whose settling may take so many
abbrev pub start : Equation → ℕ → Node
start goal left = record { moves = []; state = alone goal; left = left }

-- one more move, after which nothing is settled yet, and settling may take so many moves
abbrev pub node_with : ℕ → Node → Next → Node
node_with left node next =
    record { moves = node.moves ++ next.move ∷ []; state = next.state; left = left }
