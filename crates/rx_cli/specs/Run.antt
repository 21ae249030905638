-- How a run ends, and what it wrote.
use Rattle.std.specs.Prelude.{◌≡◌, ◌⊎◌, ℕ, List, Option}
use Rattle.std.specs.Io.KnownBytes.{Appends, Keeps}
use Rattle.rx_io.specs.Outside.{Names, AppendsPrefix}
use Rattle.rx_report.specs.declared.answer.Answer.{Answer}
use Rattle.rx_report.specs.declared.ends.Status.{Status}
use Rattle.rx_report.specs.declared.ends.Status.TheVariants as Ends
use Rattle.rx_cli.specs.Answers.{AnswersOrFails}
use Rattle.rx_report.specs.Reports.{IsReport}
use Rattle.rx_command.specs.Commands.{command_of}

-- a report that the words may have: that of what was read, or that of a read fault
abbrev pub Reports : Option Names → Type 0 → List (List ℕ) → Status → List ℕ → Type 0
Reports held read_fault words status text =
    (answer : Answer) × AnswersOrFails held read_fault (command_of words) answer ×
    IsReport answer status text

-- the whole report was written, and the status is its own
abbrev pub IsReported : Option Names → Type 0 → List (List ℕ) → Option (List ℕ) → Option (List ℕ) →
    Status → Type 0
IsReported held read_fault words old new status =
    (text : List ℕ) × Reports held read_fault words status text × Appends old new text

-- there was no memory, and nothing was written
abbrev pub IsOutOfMemory : Option (List ℕ) → Option (List ℕ) → Status → Type 0
IsOutOfMemory old new status = (status ≡ Ends.NoMemory) × Keeps old new

-- a call on the output found a fault, and less than the whole report was written
abbrev pub IsCutShort : Option Names → Type 0 → Type 0 → List (List ℕ) → Option (List ℕ) →
    Option (List ℕ) → Status → Type 0
IsCutShort held read_fault write_fault words old new status =
    (status ≡ Ends.WriteFault) × write_fault ×
    ((meant : Status) × (text : List ℕ) × Reports held read_fault words meant text ×
    AppendsPrefix old new text)

-- how a run ends
abbrev pub RunEnds : Option Names → Type 0 → Type 0 → List (List ℕ) → Option (List ℕ) →
    Option (List ℕ) → Status → Type 0
RunEnds held read_fault write_fault words old new status =
    IsReported held read_fault words old new status ⊎
    (IsOutOfMemory old new status ⊎ IsCutShort held read_fault write_fault words old new status)
