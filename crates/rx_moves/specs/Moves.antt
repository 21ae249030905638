-- Moves: steps whose certificates are open. What a search does is a function of moves alone.
use Rattle.std.specs.Prelude.{ℕ, Bool, List, []}
use Rattle.rx_cert.specs.declared.cert.Cert.TheVariants.{Sum}
use Rattle.rx_poly.specs.declared.body.Body.{Body}
use Rattle.rx_row.specs.declared.row.Row.{Row}
use Rattle.rx_term.specs.declared.rule.Equation.{Equation}
use Rattle.rx_inference.specs.declared.step.Delete.TheVariants as delete
use Rattle.rx_inference.specs.declared.step.Side.{Side}
use Rattle.rx_inference.specs.declared.step.Step.{Step}
use Rattle.rx_inference.specs.declared.step.Step.TheVariants as step

-- what a step does, whatever shows its conditions
pub data Move : Type 0 where
  Simplify : Side → ℕ → Move
  Hyp : Side → ℕ → ℕ → List (ℕ × Body) → Move
  Expand : Side → Bool → Move
  Absurd : Move
  Equal : Move
  EqDelete : Move
  Generalise : Equation → List (ℕ × Body) → Move
  Postulate : Equation → Move
  Split : Row → Move
  Decompose : Move
  Results : ℕ → ℕ → Move

-- the move of a step
abbrev pub move_of : Step → Move
move_of (step.Simplify side rule certs) = Simplify side rule
move_of (step.Hyp side place hyp subst certs) = Hyp side place hyp subst
move_of (step.Expand side keep) = Expand side keep
move_of (step.Delete (delete.Absurd cert)) = Absurd
move_of (step.Delete (delete.Equal certs)) = Equal
move_of step.EqDelete = EqDelete
move_of (step.Generalise left right rows subst certs) =
    Generalise (record { left = left; right = right; rows = rows }) subst
move_of (step.Postulate left right rows certs) =
    Postulate (record { left = left; right = right; rows = rows })
move_of (step.Split row) = Split row
move_of (step.Decompose certs) = Decompose
move_of (step.Results left right certs) = Results left right

-- a step that does this, without certificates; where one is needed, with an empty sum, at which
-- forming doesn't look
abbrev pub step_of : Move → Step
step_of (Simplify side rule) = step.Simplify side rule []
step_of (Hyp side place hyp subst) = step.Hyp side place hyp subst []
step_of (Expand side keep) = step.Expand side keep
step_of Absurd = step.Delete (delete.Absurd (Sum []))
step_of Equal = step.Delete (delete.Equal [])
step_of EqDelete = step.EqDelete
step_of (Generalise goal subst) = step.Generalise goal.left goal.right goal.rows subst []
step_of (Postulate goal) = step.Postulate goal.left goal.right goal.rows []
step_of (Split row) = step.Split row
step_of Decompose = step.Decompose []
step_of (Results left right) = step.Results left right []
