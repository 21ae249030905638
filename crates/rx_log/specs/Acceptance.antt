-- Whether a log is accepted for rules and a goal. Domains and what keeps them, if the log has any,
-- then covers, steps, goals left, ranks and pairs are checked in this order, and the first fault
-- decides.
use Rattle.std.specs.Prelude.{◌≡◌, ◌+◌, ◌++◌, [], ◌∷◌, ℕ, List, length, Option, Some, None, Result, Ok, Err}
use Rattle.rx_term.specs.declared.rule.Equation.{Equation}
use Rattle.rx_term.specs.declared.rule.Rule.{Rule}
use Rattle.rx_term.specs.declared.rule_set.RuleParts.{RuleParts}
use Rattle.rx_inference.specs.Judging.{StepFault, NoGoal, WrongShape, NoSuchRule, NotShown, Large}
use Rattle.rx_inference.specs.States.{State, applied}
use Rattle.rx_inference.specs.declared.step.Step.{Step}
use Rattle.rx_cover.specs.Covering.{Covering, Covers, covering}
use Rattle.rx_cover.specs.Covering as cover
use Rattle.rx_domain.specs.Keeping.{Keeping, Keeps, keeping}
use Rattle.rx_domain.specs.Keeping as keep
use Rattle.rx_domain.specs.Setting.{bad_domain, with_domains}
use Rattle.rx_domain.specs.declared.domains.Domains.{Domains}
use Rattle.rx_pairs.specs.Inside.{descends_in}
use Rattle.rx_pairs.specs.Lowering.{Descent, Descends}
use Rattle.rx_pairs.specs.Lowering as lowering
use Rattle.rx_pairs.specs.Ranks.{bad_rank}
use Rattle.rx_pairs.specs.declared.table.RankTable.{RankTable}
use Rattle.rx_log.specs.declared.log.Log.{Log}

-- ---- faults

-- a place at which the limits can be passed, by its number: a part that is to keep the domains, the
-- trees of a symbol, a step, a pair
pub data LimitAt : Type 0 where
  AtKeep : ℕ → LimitAt
  AtCover : ℕ → LimitAt
  AtStep : ℕ → LimitAt
  AtPair : ℕ → LimitAt

-- the first thing that is wrong: a symbol without a lawful domain, a part that isn't shown to keep
-- the domains, a symbol that isn't covered, a step and why it doesn't apply, how many goals are
-- left, a symbol without a lawful rank, a pair that isn't lower, or a place that passes the limits
pub data LogFault : Type 0 where
  BadDomain : ℕ → LogFault
  NotKept : ℕ → LogFault
  NotCovered : ℕ → LogFault
  Refused : ℕ → StepFault → LogFault
  Unfinished : ℕ → LogFault
  BadRanks : ℕ → LogFault
  NotLower : ℕ → LogFault
  PassesLimits : LimitAt → LogFault

-- what a check comes to, or the fault
abbrev pub Checked : Type 0 → Type 0
Checked A = Result A LogFault

-- goes on where there is no fault
infixl 10 ◌>>=◌
abbrev pub ◌>>=◌ : {A B : Type 0} → Checked A → (A → Checked B) → Checked B
Ok x >>= next = next x
Err fault >>= next = Err fault

-- ---- domains

-- the rules with the domains of a log, and as they are where it has none
abbrev pub used : RuleParts → Option Domains → RuleParts
used parts None = parts
used parts (Some domains) = with_domains parts domains.rows

-- what follows once no symbol has a bad domain
abbrev pub once_lawful : {A : Type 0} → Option ℕ → Checked A → Checked A
once_lawful None next = next
once_lawful (Some f) next = Err (BadDomain f)

-- what follows once the goal and the rules keep the domains
abbrev pub once_kept : {A : Type 0} → Keeping → Checked A → Checked A
once_kept Keeps next = next
once_kept (keep.Fails k) next = Err (NotKept k)
once_kept (keep.PassesLimits k) next = Err (PassesLimits (AtKeep k))

-- what follows once the domains of the log, if it has any, are lawful and kept
abbrev pub once_inside : {A : Type 0} → RuleParts → Equation → Option Domains → Checked A → Checked A
once_inside parts goal None next = next
once_inside parts goal (Some domains) next = once_lawful (bad_domain parts.symbols domains.rows)
    (once_kept (keeping (with_domains parts domains.rows) goal domains.keeps) next)

-- ---- all other checks but that of pairs

-- what follows once the rule set is covered
abbrev pub once_covered : {A : Type 0} → Covering → Checked A → Checked A
once_covered Covers next = next
once_covered (cover.Fails f) next = Err (NotCovered f)
once_covered (cover.PassesLimits f) next = Err (PassesLimits (AtCover f))

-- the fault of a log whose step with that number doesn't apply
abbrev pub step_fault : ℕ → StepFault → LogFault
step_fault k NoGoal = Refused k NoGoal
step_fault k WrongShape = Refused k WrongShape
step_fault k NoSuchRule = Refused k NoSuchRule
step_fault k (NotShown i) = Refused k (NotShown i)
step_fault k Large = PassesLimits (AtStep k)

-- the state after a step
abbrev pub after_step : ℕ → Result State StepFault → Checked State
after_step k (Ok next) = Ok next
after_step k (Err fault) = Err (step_fault k fault)

-- the state after steps one after the other, the first having that number
abbrev pub after_steps : RuleParts → ℕ → State → List Step → Checked State
after_steps parts k state [] = Ok state
after_steps parts k state (step ∷ steps) = do
  next ← after_step k (applied parts state step)
  after_steps parts (k + 1) next steps

-- what follows once no goal is left
abbrev pub once_finished : {A : Type 0} → List Equation → Checked A → Checked A
once_finished [] next = next
once_finished (goal ∷ goals) next = Err (Unfinished (length (goal ∷ goals)))

-- what follows once no symbol has a bad rank
abbrev pub once_ranked : {A : Type 0} → Option ℕ → Checked A → Checked A
once_ranked None next = next
once_ranked (Some f) next = Err (BadRanks f)

-- the goal alone, and no hypotheses
abbrev pub start : Equation → State
start goal = record { goals = goal ∷ []; hypotheses = [] }

-- the hypotheses of a state in which nothing is left to show, where the ranks are lawful
abbrev pub kept_by : RuleParts → RankTable → State → Checked (List Rule)
kept_by parts table end =
    once_finished end.goals (once_ranked (bad_rank parts table) (Ok end.hypotheses))

-- the hypotheses that the steps keep, where all these checks over rules with their domains find no
-- fault
abbrev pub kept_over : RuleParts → Equation → Log → Checked (List Rule)
kept_over parts goal log = once_covered (covering parts log.covers) do
  end ← after_steps parts 0 (start goal) log.steps
  kept_by parts log.table end

-- the same with the domains of the log, where these are lawful and kept
abbrev pub kept : RuleParts → Equation → Log → Checked (List Rule)
kept parts goal log =
    once_inside parts goal log.domains (kept_over (used parts log.domains) goal log)

-- ---- the verdict

-- the log is accepted, or not by this fault
pub data Verdict : Type 0 where
  Accepted : Verdict
  Fails : LogFault → Verdict

abbrev pub of_descent : Descent → Verdict
of_descent Descends = Accepted
of_descent (lowering.NotLower i) = Fails (NotLower i)
of_descent (lowering.PassesLimits i) = Fails (PassesLimits (AtPair i))

-- the verdict by what the checks before that of pairs came to: the pairs are those of the rules,
-- and then of the hypotheses
abbrev pub concluded : RuleParts → Log → Checked (List Rule) → Verdict
concluded parts log (Err fault) = Fails fault
concluded parts log (Ok hypotheses) =
    of_descent (descends_in parts (parts.rules ++ hypotheses) log.table log.pairs)

-- the verdict over rules with their domains, whatever the log says of domains
abbrev pub verdict_over : RuleParts → Equation → Log → Verdict
verdict_over parts goal log = concluded parts log (kept_over parts goal log)

-- the verdict on a log, for rules without domains and a goal
abbrev pub verdict_on : RuleParts → Equation → Log → Verdict
verdict_on parts goal log = concluded (used parts log.domains) log (kept parts goal log)

abbrev pub HasVerdict : RuleParts → Equation → Log → Verdict → Type 0
HasVerdict parts goal log verdict = verdict_on parts goal log ≡ verdict

abbrev pub IsAccepted : RuleParts → Equation → Log → Type 0
IsAccepted parts goal log = HasVerdict parts goal log Accepted
