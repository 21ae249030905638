-- Proof states, and what a step makes of one.
use Rattle.std.specs.Prelude.{Result, Ok, Err, List, ◌++◌, drop, slice_get}
use Rattle.rx_cert.specs.declared.cert.Cert.{Cert}
use Rattle.rx_term.specs.declared.rule.Equation.{Equation}
use Rattle.rx_term.specs.declared.rule.Rule.{Rule}
use Rattle.rx_term.specs.declared.rule_set.RuleParts.{RuleParts}
use Rattle.rx_inference.specs.Forming.{Forming}
use Rattle.rx_inference.specs.Judging.{Judgement, Shown, Fault, StepFault, NoGoal, WrongShape, NoSuchRule, Large, certificates, first_rows, judged}
use Rattle.rx_inference.specs.Kinds.{formed}
use Rattle.rx_inference.specs.declared.form_end.FormEnd.{FormEnd}
use Rattle.rx_inference.specs.declared.form_end.FormEnd.TheVariants as form_end
use Rattle.rx_inference.specs.declared.formed_step.FormedStep.{FormedStep}
use Rattle.rx_inference.specs.declared.step.Step.{Step}

-- the goals that are to be shown, and the hypotheses that may be used for them
pub record State : Type 0 where
  pub goals : List Equation
  pub hypotheses : List Rule

-- the new goals in place of the first one, and the new hypotheses after the others
abbrev pub taken : State → FormedStep → State
taken state f =
    record { goals = f.goals ++ drop 1 state.goals; hypotheses = state.hypotheses ++ f.kept }

-- why a step isn't formed; that memory runs out is an answer of calls alone, and no definition
-- comes to it
abbrev pub fault_of : FormEnd → StepFault
fault_of form_end.NoGoal = NoGoal
fault_of form_end.WrongShape = WrongShape
fault_of form_end.NoSuchRule = NoSuchRule
fault_of form_end.Large = Large
fault_of form_end.NoMemory = Large

-- what is shown is taken
abbrev pub taken_if : State → FormedStep → Judgement → Result State StepFault
taken_if state f Shown = Ok (taken state f)
taken_if state f (Fault fault) = Err fault

-- a formed step is judged, and then taken
abbrev pub carried_out : State → List Cert → Forming FormedStep → Result State StepFault
carried_out state certs (Err end) = Err (fault_of end)
carried_out state certs (Ok f) =
    taken_if state f (judged (first_rows state.goals) (first_rows f.goals) f.asked certs)

-- a step on a state: it is formed, judged and taken, or it has the first fault
abbrev pub applied : RuleParts → State → Step → Result State StepFault
applied parts state step =
    carried_out state (certificates step) (formed parts (slice_get state.goals 0) state.hypotheses
    step)
