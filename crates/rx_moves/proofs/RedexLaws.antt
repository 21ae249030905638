-- A rule of another shape than the redex's doesn't apply.
use Rattle.std.proofs.Common.{◌≡◌, ◌∙◌, ap, refl, ℕ, Bool, false, Option, Some, None}
use Rattle.std.specs.Prelude.{slice_get}
use Rattle.std.specs.Option.{option_map_or}
use Rattle.rx_solve.specs.Attempts.{Tried, fails}
use Rattle.rx_term.specs.Meaning.{redex_of}
use Rattle.rx_term.specs.declared.rule.Equation.{Equation}
use Rattle.rx_term.specs.declared.rule.Rule.{Rule}
use Rattle.rx_term.specs.declared.rule_set.RuleParts.{RuleParts}
use Rattle.rx_term.specs.declared.term.Term.{Term}
use Rattle.rx_inference.specs.Forming.{Forming, found_or, limited, provided, ◌>>=◌}
use Rattle.rx_inference.specs.Kinds.{formed}
use Rattle.rx_inference.specs.Making.{simplified_by}
use Rattle.rx_inference.specs.Pieces.{have_one_shape, side_of}
use Rattle.rx_inference.specs.States.{State}
use Rattle.rx_inference.specs.declared.form_end.FormEnd.TheVariants.{NoSuchRule, WrongShape}
use Rattle.rx_inference.specs.declared.formed_step.FormedStep.{FormedStep}
use Rattle.rx_inference.specs.declared.step.Side.{Side}
use Rattle.rx_moves.specs.Moves.{Simplify, step_of}
use Rattle.rx_moves.specs.Trying.{Next, attempt, next_if_formed}

-- the side has a redex, of the shape of the rule's left side
abbrev pub is_at_redex : Rule → Side → Equation → Bool
is_at_redex rule side goal =
    option_map_or (λ (redex : Term). have_one_shape rule.left redex) (redex_of (side_of side goal))
    false

-- so of the first goal
abbrev pub is_at_first : Rule → Side → State → Bool
is_at_first rule side state =
    option_map_or (λ (goal : Equation). is_at_redex rule side goal) (slice_get state.goals 0) false

-- what forming comes to at what may be a redex, by what may be a rule
abbrev pub simplified_at : Side → Equation → Option Term → Option Rule → Forming FormedStep
simplified_at side goal o r = do
  redex ← found_or WrongShape o
  rule ← found_or NoSuchRule r
  provided (have_one_shape rule.left redex) (limited (simplified_by goal side redex rule))

module _ (parts : RuleParts) (state : State) (side : Side) (n : ℕ) (rule : Rule)
    (there : slice_get parts.rules n ≡ Some rule) where
  -- what comes of what forming comes to
  abbrev tried : Forming FormedStep → Tried Next
  tried x = next_if_formed state (Simplify side n) x

  by_redex : (goal : Equation) (o : Option Term) →
      option_map_or (λ (redex : Term). have_one_shape rule.left redex) o false ≡ false →
      tried (simplified_at side goal o (slice_get parts.rules n)) ≡ fails
  by_redex goal None other = refl
  by_redex goal (Some redex) other =
      ap (λ (r : Option Rule). tried (simplified_at side goal (Some redex) r)) there
      ∙ ap (λ (b : Bool). tried (provided b (limited (simplified_by goal side redex rule)))) other

  by_goal : (o : Option Equation) →
      option_map_or (λ (goal : Equation). is_at_redex rule side goal) o false ≡ false →
      tried (formed parts o state.hypotheses (step_of (Simplify side n))) ≡ fails
  by_goal None other = refl
  by_goal (Some goal) other = by_redex goal (redex_of (side_of side goal)) other

  pub refused : is_at_first rule side state ≡ false → attempt parts state (Simplify side n) ≡ fails
  unfolding attempt
  refused other = by_goal (slice_get state.goals 0) other
