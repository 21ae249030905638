-- What is known at a step of a log that is under a name.
use Rattle.std.specs.Prelude.{◌≡◌, ◌⊎◌, ◌+◌, ℕ, List, [], Option, Some, None, option_map, Result, Ok, Err, drop, length, take}
use Rattle.rx_domain.specs.Setting.{bad_domain}
use Rattle.rx_domain.specs.declared.domains.Domains.{Domains}
use Rattle.rx_inference.specs.declared.step.Step.{Step}
use Rattle.rx_io.specs.Outside.{HoldsBytes, HoldsMore, IsMissing, Names}
use Rattle.rx_log.specs.Acceptance.{LogFault, after_steps, start, used}
use Rattle.rx_log.specs.declared.log.Log.{Log}
use Rattle.rx_logtext.specs.Logs.{IsFirstBad, IsLog}
use Rattle.rx_row.specs.declared.row.Row.{Row}
use Rattle.rx_term.specs.declared.rule.Equation.{Equation}
use Rattle.rx_term.specs.declared.rule_set.RuleParts.{RuleParts}
use Rattle.rx_logstate.specs.Fronts.{fronts_of}
use Rattle.rx_logstate.specs.declared.at_step.AtStep.{AtStep}
use Rattle.rx_logstate.specs.declared.front_lines.Fronts.{Fronts}
use Rattle.rx_logstate.specs.declared.look_end.LookEnd.{LookEnd}
use Rattle.rx_logstate.specs.declared.look_end.LookEnd.TheVariants as look_end

-- the steps before the one with this number, counted from 0; all where there are no more
abbrev pub steps_before : ℕ → Log → List Step
steps_before number log = take number log.steps

-- the step with this number, alone; none where there are no more
abbrev pub step_at : ℕ → Log → List Step
step_at number log = take 1 (drop number log.steps)

-- the number of the line of that step, or of the one after the last: the covers come before
-- the steps
abbrev pub line_of_step : ℕ → Log → ℕ
line_of_step number log =
    (fronts_of log).covers + length log.covers + length (steps_before number log)

-- the domains of a log, where it has any
abbrev pub rows_of : Option Domains → Option (List (List Row))
rows_of domains = option_map (λ d. d.rows) domains

-- a symbol has a bad domain in the log
abbrev pub HasBadDomain : RuleParts → Option Domains → Type 0
HasBadDomain parts None = ⊥
HasBadDomain parts (Some domains) =
    (symbol : ℕ) × (bad_domain parts.symbols domains.rows ≡ Some symbol)

-- at the step with this number of a log, for rules and a goal: the state after the steps before it,
-- over the rules with the domains of the log
pub record IsAtStep (parts : RuleParts) (goal : Equation) (log : Log) (number : ℕ) (found : AtStep)
    : Type 0 where
  pub fronts : found.fronts ≡ fronts_of log
  pub line : found.line ≡ line_of_step number log
  pub state :
      after_steps (used parts log.domains) 0 (start goal) (steps_before number log)
      ≡ Ok found.state
  pub step : found.step ≡ step_at number log
  pub table : found.table ≡ log.table
  pub domains : found.domains ≡ rows_of log.domains

-- a step before that one isn't accepted
pub record IsRefusedBefore (parts : RuleParts) (goal : Equation) (log : Log) (number : ℕ) : Type 0
  where
    pub fault : LogFault
    pub is :
        after_steps (used parts log.domains) 0 (start goal) (steps_before number log) ≡ Err fault

-- there is a step before that one, and the domains aren't lawful
abbrev pub IsUnlawfulBefore : RuleParts → Log → ℕ → Type 0
IsUnlawfulBefore parts log number =
    (steps_before number log ≡ [] → ⊥) × HasBadDomain parts log.domains

-- these bytes, for which that is said, are under the name, where that is known
pub record Stand (held : Option Names) (name : List ℕ) (Said : List ℕ → Type 0) : Type 0 where
  pub bytes : List ℕ
  pub holds : HoldsBytes held name bytes
  pub said : Said bytes

-- the bytes are the text of a log, for which that is said
abbrev pub OnLog : List ℕ → (Log → Type 0) → Type 0
OnLog bytes Said = (log : Log) × (IsLog bytes log × Said log)

-- the bytes are no log
abbrev pub IsNoLog : List ℕ → Type 0
IsNoLog bytes = (line : ℕ) × IsFirstBad bytes line

-- the bytes are no log, or that of one in which a step before isn't accepted, or comes after
-- domains that aren't lawful
abbrev pub HasNoPlace : RuleParts → Equation → ℕ → List ℕ → Type 0
HasNoPlace parts goal number bytes =
    IsNoLog bytes
    ⊎ OnLog bytes (λ log. IsUnlawfulBefore parts log number ⊎ IsRefusedBefore parts goal log number)

-- what is found at the step with this number of the log that is under a name, or why nothing is
abbrev pub FindsStep : Option Names → Type 0 → List ℕ → ℕ → RuleParts → Equation → ℕ →
    Result AtStep LookEnd → Type 0
FindsStep held fault name limit parts goal number (Ok found) =
    Stand held name (λ bytes. OnLog bytes (λ log. IsAtStep parts goal log number found))
FindsStep held fault name limit parts goal number (Err look_end.Unread) =
    fault ⊎ (IsMissing held name ⊎ HoldsMore held name limit)
FindsStep held fault name limit parts goal number (Err look_end.NoPlace) =
    Stand held name (HasNoPlace parts goal number)
FindsStep held fault name limit parts goal number (Err look_end.NoMemory) = Unit {0}

-- where the lines before the steps begin in the log that is under a name, or why that isn't known
abbrev pub FindsFronts : Option Names → Type 0 → List ℕ → ℕ → Result Fronts LookEnd → Type 0
FindsFronts held fault name limit (Ok fronts) =
    Stand held name (λ bytes. OnLog bytes (λ log. fronts ≡ fronts_of log))
FindsFronts held fault name limit (Err look_end.Unread) =
    fault ⊎ (IsMissing held name ⊎ HoldsMore held name limit)
FindsFronts held fault name limit (Err look_end.NoPlace) = Stand held name IsNoLog
FindsFronts held fault name limit (Err look_end.NoMemory) = Unit {0}
