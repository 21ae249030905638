-- Settling: on the first goal again and again the first move that applies, of those listed here in
-- order. It ends where no goal is left or none applies, and after 200 moves.
use Rattle.std.specs.Prelude.{ℕ, zero, suc, ◌+◌, ◌-◌, ◌==◌, ◌&&◌, nat_lt, Bool, true, false, if◌then◌else◌, Option, Some, None, List, [], ◌∷◌, map}
use Rattle.std.specs.List.{range_with_len}
use Rattle.std.specs.Option.{option_or}
use Rattle.rx_row.specs.declared.row.Row.{Row}
use Rattle.rx_solve.specs.Attempts.{Tried, fails, first_applying}
use Rattle.rx_term.specs.Bounds.{equation_bound}
use Rattle.rx_term.specs.Stacks.{depth_of}
use Rattle.rx_term.specs.declared.rule.Equation.{Equation}
use Rattle.rx_term.specs.declared.rule.Rule.{Rule}
use Rattle.rx_term.specs.declared.rule_set.RuleParts.{RuleParts}
use Rattle.rx_inference.specs.Pieces.{side_of}
use Rattle.rx_inference.specs.States.{State}
use Rattle.rx_inference.specs.declared.step.Side.{Side}
use Rattle.rx_inference.specs.declared.step.Side.TheVariants.{Left, Right}
use Rattle.rx_lemma.specs.Naming.{naming_of}
use Rattle.rx_lemma.specs.Lemmas.{Generalisation, variables_end}
use Rattle.rx_moves.specs.Moves.{Move, Hyp, Absurd, Equal, Generalise, Results}
use Rattle.rx_moves.specs.Suffixes.{common_suffix}
use Rattle.rx_moves.specs.declared.finding.Common.{Common}
use Rattle.rx_moves.specs.Trying.{Next, attempt, noting, then_try}
use Rattle.rx_moves.specs.Unfolding.{leaving_at, redex_symbol, unfolding_at}
use Rattle.rx_settle.specs.Uses.{using_each}
use Rattle.rx_settle.specs.declared.uses.Matching.TheVariants.{PartAlone}

-- ---- moves

module _ (parts : RuleParts) (state : State) where
  -- constants of calls become variables
  abbrev pub named : Equation → Tried Next
  named goal =
      then_try (naming_of parts goal) (λ (lemma : Generalisation).
      attempt parts state (Generalise lemma.goal lemma.subst))

  -- Results at two places, unless both sides are taken whole
  abbrev pub resulting_at : ℕ → ℕ → Tried Next
  resulting_at left right =
      if left == 0 && right == 0 then fails else attempt parts state (Results left right)

  -- at the longest common suffix, if there is one, with what was noted as it was found
  abbrev pub resulting : Equation → Common → Tried Next
  resulting goal suffix =
      noting suffix.noted
      (if suffix.parts == 0 then fails
      else resulting_at (1 + depth_of goal.left - suffix.parts)
      (1 + depth_of goal.right - suffix.parts))

  -- the variable that represents a result is to be below the end
  abbrev pub by_results : Equation → Tried Next
  by_results goal =
      if nat_lt (equation_bound goal) variables_end
      then resulting goal (common_suffix goal.rows goal.left goal.right)
      else fails

  -- all that is tried at a goal, in order
  abbrev pub settling : Equation → List (Tried Next)
  settling goal =
      first_applying (attempt parts state Absurd ∷ attempt parts state Equal ∷ [])
      ∷ first_applying (unfolding_at parts state Left (redex_symbol Left goal) ∷
      unfolding_at parts state Right (redex_symbol Right goal) ∷ [])
      ∷ first_applying (leaving_at parts state Left (redex_symbol Left goal) ∷
      leaving_at parts state Right (redex_symbol Right goal) ∷ [])
      ∷ named goal
      ∷ first_applying (using_each parts state PartAlone goal 0 state.hypotheses)
      ∷ by_results goal
      ∷ []

-- on the first goal; where none is left nothing is tried
abbrev pub settling_first : RuleParts → State → List Equation → Tried Next
settling_first parts state [] = fails
settling_first parts state (goal ∷ goals) = first_applying (settling parts state goal)

abbrev pub settling_move : RuleParts → State → Tried Next
settling_move parts state = settling_first parts state state.goals

-- ---- settling

-- the moves, the state after them, how many more moves might be made, and the rows of the first
-- goal at which something was noted
pub record Settled : Type 0 where
  pub moves : List Move
  pub state : State
  pub left : ℕ
  pub note : Option (List Row)

-- the rows of the first goal, where something was noted
abbrev pub rows_if : Bool → List Equation → Option (List Row)
rows_if false goals = None
rows_if true [] = None
rows_if true (goal ∷ goals) = Some goal.rows

-- a first move and what follows it, or no move
abbrev pub moved : State → ℕ → Option (List Row) → Option Next → (State → Settled) → Settled
moved state left note None later =
    record { moves = []; state = state; left = 1 + left; note = note }
moved state left note (Some next) later =
    let settled = later next.state in
    record {
      moves = next.move ∷ settled.moves;
      state = settled.state;
      left = settled.left;
      note =
          option_or note settled.note;
    }

-- settled by n moves at most
unfoldable pub settle : RuleParts → ℕ → State → Settled
settle parts zero state = record { moves = []; state = state; left = 0; note = None }
settle parts (suc left) state =
    let tried = settling_move parts state in
    moved state left (rows_if tried.noted state.goals) tried.made (settle parts left)

-- how many moves settle a state at most
abbrev pub most_moves : ℕ
most_moves = 200
