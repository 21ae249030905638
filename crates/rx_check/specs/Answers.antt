-- What the answer to a call says of a log.
use Rattle.std.specs.Prelude.{◌≡◌, ℕ, Option, Some, None, Result, Ok, Err}
use Rattle.std.specs.Option.{option_map}
use Rattle.rx_cover.specs.declared.cover_end.CoverEnd.{CoverEnd}
use Rattle.rx_cover.specs.declared.cover_end.CoverEnd.TheVariants as cover_end
use Rattle.rx_domain.specs.declared.domain_end.DomainEnd.{DomainEnd}
use Rattle.rx_domain.specs.declared.domain_end.DomainEnd.TheVariants as domain_end
use Rattle.rx_steps.specs.Faults.{fault}
use Rattle.rx_steps.specs.declared.step_end.StepEnd.{StepEnd}
use Rattle.rx_steps.specs.declared.step_end.StepEnd.TheVariants as step_end
use Rattle.rx_term.specs.declared.rule.Equation.{Equation}
use Rattle.rx_term.specs.declared.rule_set.RuleParts.{RuleParts}
use Rattle.rx_log.specs.Acceptance.{Accepted, AtCover, AtKeep, AtPair, AtStep, Checked, Fails, HasVerdict, LogFault, Verdict}
use Rattle.rx_log.specs.Acceptance as log_fault
use Rattle.rx_log.specs.declared.log.Log.{Log}
use Rattle.rx_check.specs.declared.check_end.CheckEnd.{CheckEnd}
use Rattle.rx_check.specs.declared.check_end.CheckEnd.TheVariants.{BadDomain, BadRanks, Large, NoMemory, NotCovered, NotKept, NotLower, Step, Unfinished}
use Rattle.rx_check.specs.declared.check_end.LimitAt.{LimitAt}
use Rattle.rx_check.specs.declared.check_end.LimitAt.TheVariants as place

-- the end of a check by that of covers
abbrev pub of_cover_end : CoverEnd → CheckEnd
of_cover_end (cover_end.NotCovered f) = NotCovered f
of_cover_end (cover_end.Large f) = Large (place.Cover f)
of_cover_end cover_end.NoMemory = NoMemory

-- the end of a check by that of domains
abbrev pub of_domain_end : DomainEnd → CheckEnd
of_domain_end (domain_end.BadDomain f) = BadDomain f
of_domain_end (domain_end.NotKept k) = NotKept k
of_domain_end (domain_end.Large k) = Large (place.Keep k)
of_domain_end domain_end.NoMemory = NoMemory

-- the end of a check by that of a step
abbrev pub of_step_end : ℕ → StepEnd → CheckEnd
of_step_end k step_end.NoGoal = Step k step_end.NoGoal
of_step_end k step_end.WrongShape = Step k step_end.WrongShape
of_step_end k step_end.NoSuchRule = Step k step_end.NoSuchRule
of_step_end k (step_end.NotShown i) = Step k (step_end.NotShown i)
of_step_end k step_end.Large = Large (place.Step k)
of_step_end k step_end.NoMemory = NoMemory

-- the outcome of the check that the step with that number is
abbrev pub of_step_outcome : ℕ → Result (Unit {0}) StepEnd → Result (Unit {0}) CheckEnd
of_step_outcome k (Ok done) = Ok done
of_step_outcome k (Err end) = Err (of_step_end k end)

-- the place that a place is
abbrev pub place_of : LimitAt → log_fault.LimitAt
place_of (place.Keep k) = AtKeep k
place_of (place.Cover f) = AtCover f
place_of (place.Step k) = AtStep k
place_of (place.Pair i) = AtPair i

-- the fault that an end names; memory that runs out names none
abbrev pub named : CheckEnd → Option LogFault
named (Step k end) = Some (log_fault.Refused k (fault end))
named (BadDomain f) = Some (log_fault.BadDomain f)
named (NotKept k) = Some (log_fault.NotKept k)
named (Unfinished n) = Some (log_fault.Unfinished n)
named (NotCovered f) = Some (log_fault.NotCovered f)
named (BadRanks f) = Some (log_fault.BadRanks f)
named (NotLower i) = Some (log_fault.NotLower i)
named (Large p) = Some (log_fault.PassesLimits (place_of p))
named NoMemory = None

-- what is said of the fault, if there is one
abbrev pub Told : Option LogFault → (LogFault → Type 0) → Type 0
Told None Says = Unit {0}
Told (Some fault) Says = Says fault

-- a check comes to what the answer shows, or to the fault that the end names
abbrev pub Finds : {A B : Type 0} → (A → B) → Result A CheckEnd → Checked B → Type 0
Finds shows (Ok x) check = check ≡ Ok (shows x)
Finds shows (Err end) check = Told (named end) (λ fault. check ≡ Err fault)

-- the log is accepted, or its verdict is the fault that the end names
abbrev pub Answers : Result (Unit {0}) CheckEnd → RuleParts → Equation → Log → Type 0
Answers (Ok _) parts goal log = HasVerdict parts goal log Accepted
Answers (Err end) parts goal log =
    Told (named end) (λ fault. HasVerdict parts goal log (Fails fault))

-- the verdict that an answer gives; memory that runs out gives none
abbrev pub verdict_known : Result (Unit {0}) CheckEnd → Option Verdict
verdict_known (Ok _) = Some Accepted
verdict_known (Err end) = option_map Fails (named end)
