-- What a call that forms and judges a step answers.
use Rattle.std.specs.Prelude.{◌≡◌, ◌≢◌, Result, Ok, Err, slice_get}
use Rattle.rx_inference.specs.Judging.{Shown, certificates, first_rows, judged}
use Rattle.rx_inference.specs.Kinds.{formed}
use Rattle.rx_inference.specs.States.{State, applied}
use Rattle.rx_inference.specs.declared.formed_step.FormedStep.{FormedStep}
use Rattle.rx_inference.specs.declared.step.Step.{Step}
use Rattle.rx_term.specs.declared.rule_set.RuleParts.{RuleParts}
use Rattle.rx_steps.specs.Faults.{fault}
use Rattle.rx_steps.specs.declared.step_end.StepEnd.{StepEnd}
use Rattle.rx_steps.specs.declared.step_end.StepEnd.TheVariants.{NoMemory}

-- the step is formed, and judged shown; or it has the fault, apart from memory
abbrev pub Shows : Result FormedStep StepEnd → RuleParts → State → Step → Type 0
Shows (Ok f) parts state step =
    (formed parts (slice_get state.goals 0) state.hypotheses step ≡ Ok f)
    × (judged (first_rows state.goals) (first_rows f.goals) f.asked (certificates step) ≡ Shown)
Shows (Err e) parts state step = e ≢ NoMemory → applied parts state step ≡ Err (fault e)
