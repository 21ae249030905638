-- A goal alone, what came of it put back among the others, and a goal put before them.
use Rattle.std.specs.Prelude.{[], ◌∷◌, ◌++◌, drop}
use Rattle.rx_term.specs.declared.rule.Equation.{Equation}
use Rattle.rx_inference.specs.States.{State}

-- the state of that goal alone, without hypotheses
abbrev pub alone : Equation → State
alone goal = record { goals = goal ∷ []; hypotheses = [] }

-- the goals that came of the first one, in its place, and the hypotheses that came with them, after
-- the others
abbrev pub onto : State → State → State
onto state after = record {
  goals = after.goals ++ drop 1 state.goals;
  hypotheses = state.hypotheses ++ after.hypotheses;
}

-- the goal before the others
abbrev pub put_before : State → Equation → State
put_before state goal =
    record { goals = goal ∷ state.goals; hypotheses = state.hypotheses }
