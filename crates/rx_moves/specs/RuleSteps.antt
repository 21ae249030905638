-- Rules at redexes, as far as the step before it is taken.
use Rattle.std.specs.Prelude.{◌≡◌, ℕ, Some, [], ◌∷◌, slice_get}
use Rattle.rx_term.specs.Stacks.{replace_redex}
use Rattle.rx_term.specs.declared.rule.Equation.{Equation}
use Rattle.rx_term.specs.declared.rule.Rule.{Rule}
use Rattle.rx_term.specs.declared.rule_set.RuleParts.{RuleParts}
use Rattle.rx_term.specs.declared.term.Term.{Term}
use Rattle.rx_inference.specs.Forming.{limited}
use Rattle.rx_inference.specs.Making.{simplified_by}
use Rattle.rx_inference.specs.Pieces.{asking, side_of, with_side}
use Rattle.rx_inference.specs.States.{State}
use Rattle.rx_inference.specs.declared.formed_step.FormedStep.{FormedStep}
use Rattle.rx_inference.specs.declared.pieces.RuleInstance.{RuleInstance}
use Rattle.rx_inference.specs.declared.step.Side.{Side}
use Rattle.rx_inference.specs.declared.step.Step.{Step}
use Rattle.rx_inference.specs.declared.step.Step.TheVariants as step
use Rattle.rx_moves.specs.Outcomes.{IsOutcome}
use Rattle.rx_moves.specs.Parts.{formed_first}
use Rattle.rx_moves.specs.declared.outcome.Outcome.{Outcome}

-- the instance's rows are asked, and its right side stands in place of the redex
abbrev pub rule_made : Equation → Side → RuleInstance → FormedStep
rule_made goal side i =
    asking i.rows (with_side side goal (replace_redex (side_of side goal) i.right) ∷ [])

-- this comes of each step that is formed as the rule is at the redex
unfoldable pub FollowsRule : State → Equation → Side → Term → Rule → Outcome → Type 0
FollowsRule state goal side redex rule outcome =
    (parts : RuleParts) (step : Step) →
    formed_first parts state step ≡ limited (simplified_by goal side redex rule) →
    IsOutcome parts state step outcome

-- this comes of Simplify by each rule set in which the rule has a number
unfoldable pub FollowsNumber : State → Side → Rule → Outcome → Type 0
FollowsNumber state side rule outcome =
    (parts : RuleParts) (number : ℕ) → slice_get parts.rules number ≡ Some rule →
    IsOutcome parts state (step.Simplify side number []) outcome
