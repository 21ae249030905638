-- What is tried at the first goal, by each item of settling.
use Rattle.std.specs.Prelude.{ℕ, List, [], ◌∷◌, slice_get}
use Rattle.std.specs.Option.{option_map_or}
use Rattle.rx_solve.specs.Attempts.{Tried, fails, first_applying}
use Rattle.rx_term.specs.declared.rule.Equation.{Equation}
use Rattle.rx_term.specs.declared.rule.Rule.{Rule}
use Rattle.rx_term.specs.declared.rule_set.RuleParts.{RuleParts}
use Rattle.rx_inference.specs.States.{State}
use Rattle.rx_inference.specs.declared.step.Side.{Side}
use Rattle.rx_inference.specs.declared.step.Side.TheVariants.{Left, Right}
use Rattle.rx_moves.specs.Moves.{Absurd, Equal}
use Rattle.rx_settle.specs.Settling.{by_results, named}
use Rattle.rx_moves.specs.Trying.{Next, attempt}
use Rattle.rx_moves.specs.Unfolding.{leaving_sides, unfolding_sides}
use Rattle.rx_settle.specs.Uses.{using_each, using_on}
use Rattle.rx_settle.specs.declared.uses.Matching.{Matching}
use Rattle.rx_settle.specs.declared.uses.Matching.TheVariants.{PartAlone}

-- at the first goal; where none is left nothing is tried
abbrev pub at_first : (Equation → Tried Next) → List Equation → Tried Next
at_first tried [] = fails
at_first tried (goal ∷ goals) = tried goal

module _ (parts : RuleParts) (state : State) where
  -- ---- hypotheses

  -- a hypothesis, if there is one of that number, on a side
  abbrev pub using_number : Matching → ℕ → Side → Equation → Tried Next
  using_number how number side goal =
      option_map_or (λ (hypothesis : Rule). using_on parts state how goal number hypothesis side)
      (slice_get state.hypotheses number) fails

  -- on the left side, and then on the right one
  abbrev pub using_sides : Matching → ℕ → Equation → Tried Next
  using_sides how number goal =
      first_applying (using_number how number Left goal ∷ using_number how number Right goal ∷ [])

  -- all hypotheses
  abbrev pub using_all : Matching → Equation → Tried Next
  using_all how goal = first_applying (using_each parts state how goal 0 state.hypotheses)

  -- ---- the items before hypotheses

  -- loop points, and then naming
  abbrev pub from_leaving : Equation → Tried Next
  from_leaving goal = first_applying (leaving_sides parts state goal ∷ named parts state goal ∷ [])

  -- other redexes, then loop points, and then naming
  abbrev pub from_unfolding : Equation → Tried Next
  from_unfolding goal = first_applying (unfolding_sides parts state goal ∷ from_leaving goal ∷ [])

  -- a goal that need not be shown
  abbrev pub deleting : Tried Next
  deleting = first_applying (attempt parts state Absurd ∷ attempt parts state Equal ∷ [])

  -- the first four items of settling
  abbrev pub before_uses : Equation → Tried Next
  before_uses goal =
      first_applying (deleting ∷ unfolding_sides parts state goal ∷ leaving_sides parts state goal ∷
      named parts state goal ∷ [])

  -- ---- the items after them

  -- hypotheses and results
  abbrev pub from_uses : Equation → Tried Next
  from_uses goal = first_applying (using_all PartAlone goal ∷ by_results parts state goal ∷ [])
