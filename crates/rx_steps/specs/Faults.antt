-- The ends of calls as faults of steps.
use Rattle.std.specs.Prelude.{◌≡◌, ◌≢◌, Result, Ok, Err}
use Rattle.rx_poly.specs.declared.poly_end.PolyEnd.{PolyEnd}
use Rattle.rx_poly.specs.declared.poly_end.PolyEnd.TheVariants as poly_end
use Rattle.rx_inference.specs.Judging.{Judgement, Shown, Fault, StepFault}
use Rattle.rx_inference.specs.Judging as judging
use Rattle.rx_inference.specs.States.{State}
use Rattle.rx_inference.specs.declared.form_end.FormEnd.{FormEnd}
use Rattle.rx_inference.specs.declared.form_end.FormEnd.TheVariants as form_end
use Rattle.rx_steps.specs.declared.step_end.StepEnd.{StepEnd}
use Rattle.rx_steps.specs.declared.step_end.StepEnd.TheVariants.{NoGoal, WrongShape, NoSuchRule, NotShown, Large, NoMemory}

abbrev pub of_poly_end : PolyEnd → StepEnd
of_poly_end poly_end.Large = Large
of_poly_end poly_end.NoMemory = NoMemory

abbrev pub of_form_end : FormEnd → StepEnd
of_form_end form_end.NoGoal = NoGoal
of_form_end form_end.WrongShape = WrongShape
of_form_end form_end.NoSuchRule = NoSuchRule
of_form_end form_end.Large = Large
of_form_end form_end.NoMemory = NoMemory

-- the fault that an end is; that memory runs out is none, and no clause speaks of it
abbrev pub fault : StepEnd → StepFault
fault NoGoal = judging.NoGoal
fault WrongShape = judging.WrongShape
fault NoSuchRule = judging.NoSuchRule
fault (NotShown i) = judging.NotShown i
fault Large = judging.Large
fault NoMemory = judging.Large

-- a call judges exactly so, apart from memory
abbrev pub Judges : Result (Unit {0}) StepEnd → Judgement → Type 0
Judges (Ok u) j = j ≡ Shown
Judges (Err e) j = e ≢ NoMemory → j ≡ Fault (fault e)

-- a step is applied exactly so, apart from memory
abbrev pub Applies : Result (Unit {0}) StepEnd → State → Result State StepFault → Type 0
Applies (Ok u) new answer = answer ≡ Ok new
Applies (Err e) new answer = e ≢ NoMemory → answer ≡ Err (fault e)
