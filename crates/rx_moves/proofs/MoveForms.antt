-- Forming a step looks at its move alone.
use Rattle.std.proofs.Common.{◌≡◌, refl, Option, Some, None, List}
use Rattle.rx_term.specs.declared.rule.Equation.{Equation}
use Rattle.rx_term.specs.declared.rule.Rule.{Rule}
use Rattle.rx_term.specs.declared.rule_set.RuleParts.{RuleParts}
use Rattle.rx_inference.specs.Kinds.{formed, formed_on}
use Rattle.rx_inference.specs.declared.step.Delete.TheVariants as delete
use Rattle.rx_inference.specs.declared.step.Step.{Step}
use Rattle.rx_inference.specs.declared.step.Step.TheVariants as step
use Rattle.rx_moves.specs.Moves.{move_of, step_of}

module _ (parts : RuleParts) (hypotheses : List Rule) where
  as_move_on : (goal : Equation) (s : Step) → formed_on parts goal hypotheses s ≡
      formed_on parts goal hypotheses (step_of (move_of s))
  as_move_on goal (step.Simplify side rule certs) = refl
  as_move_on goal (step.Hyp side place hyp subst certs) = refl
  as_move_on goal (step.Expand side keep) = refl
  as_move_on goal (step.Delete (delete.Absurd cert)) = refl
  as_move_on goal (step.Delete (delete.Equal certs)) = refl
  as_move_on goal step.EqDelete = refl
  as_move_on goal (step.Generalise left right rows subst certs) = refl
  as_move_on goal (step.Postulate left right rows certs) = refl
  as_move_on goal (step.Split row) = refl
  as_move_on goal (step.Decompose certs) = refl
  as_move_on goal (step.Results left right certs) = refl

  -- a step is formed as its move is
  pub as_move : (goal : Option Equation) (s : Step) → formed parts goal hypotheses s ≡
      formed parts goal hypotheses (step_of (move_of s))
  as_move None s = refl
  as_move (Some goal) s = as_move_on goal s
