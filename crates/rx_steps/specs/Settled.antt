-- Goals that need no more than a look.
use Rattle.std.specs.Prelude.{◌≡◌, true, Some, [], slice_get}
use Rattle.rx_poly.specs.Normal.{is_poly}
use Rattle.rx_poly.specs.declared.body.Body.{Body}
use Rattle.rx_inference.specs.States.{State}
use Rattle.rx_inference.specs.declared.step.Delete.TheVariants.{Equal}
use Rattle.rx_inference.specs.declared.step.Step.{Step}
use Rattle.rx_inference.specs.declared.step.Step.TheVariants.{Delete}
use Rattle.rx_term.specs.declared.rule.Equation.{Equation}
use Rattle.rx_term.specs.declared.term.Term.TheVariants.{Return}

-- both sides return the polynomial
pub record ReturnsAlike (goal : Equation) (value : Body) : Type 0 where
  pub normal : is_poly value ≡ true
  pub left : goal.left ≡ Return value
  pub right : goal.right ≡ Return value

-- both sides return one polynomial
abbrev pub ReturnsOne : Equation → Type 0
ReturnsOne goal = (value : Body) × ReturnsAlike goal value

-- so it is of the first goal
pub record IsSettled (state : State) : Type 0 where
  pub goal : Equation
  pub first : slice_get state.goals 0 ≡ Some goal
  pub alike : ReturnsOne goal

-- the step that says that both sides are equal, and gives no certificates
abbrev pub bare_equal : Step
bare_equal = Delete (Equal [])
