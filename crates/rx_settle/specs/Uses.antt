-- Hypotheses used at a goal, in order.
use Rattle.std.specs.Prelude.{ℕ, ◌+◌, List, [], ◌∷◌, map}
use Rattle.std.specs.List.{range_with_len}
use Rattle.rx_poly.specs.declared.body.Body.{Body}
use Rattle.rx_solve.specs.Attempts.{Tried, first_applying}
use Rattle.rx_term.specs.Stacks.{depth_of}
use Rattle.rx_term.specs.declared.rule.Equation.{Equation}
use Rattle.rx_term.specs.declared.rule.Rule.{Rule}
use Rattle.rx_term.specs.declared.rule_set.RuleParts.{RuleParts}
use Rattle.rx_inference.specs.Pieces.{side_of}
use Rattle.rx_inference.specs.States.{State}
use Rattle.rx_inference.specs.declared.step.Side.{Side}
use Rattle.rx_inference.specs.declared.step.Side.TheVariants.{Left, Right}
use Rattle.rx_match.specs.Beside.{use_beside}
use Rattle.rx_match.specs.Matching.{use_of}
use Rattle.rx_moves.specs.Moves.{Hyp}
use Rattle.rx_moves.specs.Trying.{Next, attempt, then_try}
use Rattle.rx_settle.specs.declared.uses.Matching.{Matching}
use Rattle.rx_settle.specs.declared.uses.Matching.TheVariants.{PartAlone, BothSides}

-- what sets the variables of a hypothesis: the part that it replaces, or the other side too
abbrev pub use_by : Matching → RuleParts → Equation → Rule → Side → ℕ → Tried (List (ℕ × Body))
use_by PartAlone parts goal hypothesis side place = use_of goal hypothesis side place
use_by BothSides parts goal hypothesis side place = use_beside parts goal hypothesis side place

module _ (parts : RuleParts) (state : State) (how : Matching) where
  -- the hypothesis with that number, at a place of a side
  abbrev pub using_at : Equation → ℕ → Rule → Side → ℕ → Tried Next
  using_at goal number hypothesis side place =
      then_try (use_by how parts goal hypothesis side place)
      (λ subst. attempt parts state (Hyp side place number subst))

  -- at the places of a side, from outside in
  abbrev pub using_on : Equation → ℕ → Rule → Side → Tried Next
  using_on goal number hypothesis side =
      first_applying (map (using_at goal number hypothesis side)
      (range_with_len 0 (1 + depth_of (side_of side goal))))

  -- the hypotheses in order, the first having that number, each on the left side and then on the
  -- right one
  abbrev pub using_each : Equation → ℕ → List Rule → List (Tried Next)
  using_each goal n [] = []
  using_each goal n (hypothesis ∷ hypotheses) =
      using_on goal n hypothesis Left ∷ using_on goal n hypothesis Right ∷
      using_each goal (n + 1) hypotheses
