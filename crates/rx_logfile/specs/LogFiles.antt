-- What is said of the log in a file.
use Rattle.std.specs.Prelude.{◌≤◌, ◌⊎◌, ℕ, List, Option, Result, Ok, Err, length}
use Rattle.rx_check.specs.Answers.{Answers}
use Rattle.rx_io.specs.Outside.{HoldsBytes, HoldsMore, IsMissing, Names}
use Rattle.rx_log.specs.declared.log.Log.{Log}
use Rattle.rx_logtext.specs.Logs.{IsFirstBad, IsLog}
use Rattle.rx_term.specs.declared.rule.Equation.{Equation}
use Rattle.rx_term.specs.declared.rule_set.RuleParts.{RuleParts}
use Rattle.rx_logfile.specs.declared.file_end.FileEnd.{FileEnd}
use Rattle.rx_logfile.specs.declared.file_end.FileEnd.TheVariants as end

-- the bytes are the text of a log, and this is what the replay of it answers
abbrev pub OnLog : RuleParts → Equation → List ℕ → (Log → Type 0) → Type 0
OnLog parts goal bytes Answered = (log : Log) × (IsLog bytes log × Answered log)

-- what is said of the bytes of a log, for rules and a goal
abbrev pub OnBytes : RuleParts → Equation → List ℕ → Result (Unit {0}) FileEnd → Type 0
OnBytes parts goal bytes (Ok done) = OnLog parts goal bytes (Answers (Ok done) parts goal)
OnBytes parts goal bytes (Err (end.Check fault)) =
    OnLog parts goal bytes (Answers (Err fault) parts goal)
OnBytes parts goal bytes (Err (end.BadLine number)) = IsFirstBad bytes number
OnBytes parts goal bytes (Err end.Failed) = ⊥
OnBytes parts goal bytes (Err end.TooLong) = ⊥
OnBytes parts goal bytes (Err end.NoMemory) = Unit {0}

-- these bytes are under the name, where that is known, and are no more than the limit
pub record Stand (held : Option Names) (name : List ℕ) (limit : ℕ) (Said : List ℕ → Type 0) : Type 0
  where
    pub bytes : List ℕ
    pub holds : HoldsBytes held name bytes
    pub within : length bytes ≤ limit
    pub said : Said bytes

-- what is said of the log that is under a name: that a call on the files found a fault or the name
-- isn't held, that there are too many bytes, or what is said of the bytes
abbrev pub OnFile
    : Option Names → Type 0 → List ℕ → ℕ → RuleParts → Equation → Result (Unit {0}) FileEnd → Type 0
OnFile held fault name limit parts goal (Err end.Failed) = fault ⊎ IsMissing held name
OnFile held fault name limit parts goal (Err end.TooLong) = HoldsMore held name limit
OnFile held fault name limit parts goal (Err end.NoMemory) = Unit {0}
OnFile held fault name limit parts goal (Err (end.BadLine number)) =
    Stand held name limit (λ bytes. OnBytes parts goal bytes (Err (end.BadLine number)))
OnFile held fault name limit parts goal (Err (end.Check failure)) =
    Stand held name limit (λ bytes. OnBytes parts goal bytes (Err (end.Check failure)))
OnFile held fault name limit parts goal (Ok done) =
    Stand held name limit (λ bytes. OnBytes parts goal bytes (Ok done))
