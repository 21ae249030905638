-- What comes of a goal by transitions: each leads from goals of a shape to one equation, in which
-- variable i stands for the polynomial at place i of the goal.
use Rattle.std.specs.Prelude.{Bool, ◌&&◌, Option, Some, if◌then◌else◌, List, [], ◌∷◌, ◌++◌}
use Rattle.rx_plain.specs.Formed.{Formed, ◌>>=◌, ◌<$>◌}
use Rattle.rx_poly.specs.Substitution.{numbered}
use Rattle.rx_poly.specs.declared.body.Body.{Body}
use Rattle.rx_row.specs.Substitution.{rows_with}
use Rattle.rx_row.specs.declared.row.Row.{Row}
use Rattle.rx_term.specs.Substitution.{term_with}
use Rattle.rx_term.specs.declared.rule.Equation.{Equation}
use Rattle.rx_inference.specs.Pieces.{have_one_shape}
use Rattle.rx_inference.specs.declared.step.Side.{Side}
use Rattle.rx_relations.specs.Applying.{form_within}
use Rattle.rx_shapes.specs.Options as options
use Rattle.rx_shapes.specs.Places.{places_of}
use Rattle.test_relations.specs.declared.systems.Transition.{Transition}

-- the goal has the shape from which the transition leads
abbrev pub leads_from : Transition → Equation → Bool
leads_from t goal =
    have_one_shape t.from.left goal.left && have_one_shape t.from.right goal.right

-- the equation at these polynomials, under the rows of the goal too
abbrev pub placed_at : List Body → List Row → Equation → Formed Equation
placed_at places rows to = do
  left ← term_with (numbered places) to.left
  right ← term_with (numbered places) to.right
  (λ more. record { left = left; right = right; rows = rows ++ more }) <$>
      rows_with (numbered places) to.rows

-- the equations, and then that to which the transition leads from the goal, if it leads from it
abbrev pub with_transition : Equation → List Equation → Transition → Option (List Equation)
with_transition goal es t =
    if leads_from t goal
    then options.◌>>=◌ (form_within (placed_at (places_of goal) goal.rows t.to))
    (λ e. Some (es ++ e ∷ []))
    else Some es

-- those of all the transitions, whatever the task is
abbrev pub led : List Transition → List Side → Equation → Option (List Equation)
led ts task goal = options.try_fold (with_transition goal) [] ts
