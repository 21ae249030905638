-- What the functions inside promise to one another. Nothing that a caller reads depends on this.
use Rattle.std.specs.Prelude.{◌≡◌, ◌≤◌, ℕ, Bool, true, false, List, Option, Some, None, Vec, option_map, Result, Ok, Err, ⊤}
use Rattle.std.specs.Borrow.{Bor}
use Rattle.std.specs.declared.alloc.Global.{Global}
use Rattle.rx_io.specs.Outside.{Names, Rose}
use Rattle.rx_logstate.specs.declared.at_step.AtStep.{AtStep}
use Rattle.rx_logstate.specs.declared.front_lines.Fronts.{Fronts}
use Rattle.rx_logstate.specs.declared.look_end.LookEnd.{LookEnd}
use Rattle.rx_logstate.specs.declared.look_end.LookEnd.TheVariants as look_end
use Rattle.rx_report.specs.declared.verdicts.Verdict.{Verdict}
use Rattle.rx_io.specs.declared.reading.ReadEnd.{ReadEnd}
use Rattle.rx_io.specs.declared.reading.ReadEnd.TheVariants as read_end
use Rattle.rx_row.specs.declared.row.Row.{Row}
use Rattle.rx_term.specs.declared.rule_set.RuleParts.{RuleParts}
use Rattle.rx_messages.specs.Explaining.{HasChangedFile, HasNoLog, HasNoRules, HasOtherLog, IsRead, IsUnread, longest_source}
use Rattle.rx_messages.specs.Logs.{AreFacts, AreFronts, IsFound, IsLine, are_lawful, facts_view, longest_log, rules_inside}
use Rattle.rx_messages.specs.RuleTexts.{AreSymbols, HasSymbols, IsNoRuleText}
use Rattle.rx_messages.specs.declared.logs.Facts as code
use Rattle.rx_messages.specs.declared.logs.Posed.{Posed}
use Rattle.rx_messages.specs.declared.silences.Silence.{Silence}
use Rattle.rx_messages.specs.declared.silences.Silence.TheVariants as silence

-- the bytes that are wanted, if any are
abbrev pub MakesSome : Option (List ℕ) → Option (Vec ℕ Global) → Type 0
MakesSome wanted None = wanted ≡ None
MakesSome wanted (Some made) = wanted ≡ Some made.items

-- bytes that are borrowed
abbrev pub bytes_in : Option (Bor (List ℕ)) → Option (List ℕ)
bytes_in = option_map (λ bytes. bytes.now)

-- what is read for a message, or why nothing is
abbrev pub ReadsGiven : Option Names → Type 0 → Option (List ℕ) →
    Result (Vec ℕ Global) Silence → Type 0
ReadsGiven held read_fault name (Ok bytes) = IsRead held name bytes.items
ReadsGiven held read_fault name (Err silence.NoMemory) = ⊤
ReadsGiven held read_fault name (Err silence.Unread) = IsUnread held read_fault longest_source name
ReadsGiven held read_fault name (Err silence.Changed) = ⊥
ReadsGiven held read_fault name (Err silence.Cut) = ⊥

-- what a fault of a reading means for a message
abbrev pub MeansEnd : ReadEnd → Silence → Type 0
MeansEnd read_end.NoMemory end = end ≡ silence.NoMemory
MeansEnd read_end.Failed end = end ≡ silence.Unread
MeansEnd read_end.TooLong end = end ≡ silence.Unread

-- what is known at the step of the log with this name, or why nothing is
abbrev pub FindsStep : Option Names → Type 0 → Option (List ℕ) → Option Posed → Option ℕ →
    Result (Option AtStep) Silence → Type 0
FindsStep held read_fault name posed wanted (Ok found) = IsFound held name posed wanted found
FindsStep held read_fault name posed wanted (Err silence.NoMemory) = ⊤
FindsStep held read_fault name posed wanted (Err silence.Unread) =
    IsUnread held read_fault longest_log name
FindsStep held read_fault name posed wanted (Err silence.Changed) =
    HasOtherLog held name posed wanted
FindsStep held read_fault name posed wanted (Err silence.Cut) = ⊥

-- where the lines before the steps begin in the log with this name, or why that isn't known
abbrev pub FindsFronts : Option Names → Type 0 → Option (List ℕ) → Bool →
    Result (Option Fronts) Silence → Type 0
FindsFronts held read_fault name wanted (Ok fronts) = AreFronts held name wanted fronts
FindsFronts held read_fault name wanted (Err silence.NoMemory) = ⊤
FindsFronts held read_fault name wanted (Err silence.Unread) =
    IsUnread held read_fault longest_log name
FindsFronts held read_fault name wanted (Err silence.Changed) = HasNoLog held name wanted
FindsFronts held read_fault name wanted (Err silence.Cut) = ⊥

-- how many symbols the rule text with these bytes has, or why that isn't known
abbrev pub CountsSymbols : List ℕ → Result (Option ℕ) Silence → Type 0
CountsSymbols bytes (Ok None) = ⊥
CountsSymbols bytes (Ok (Some count)) = HasSymbols count bytes
CountsSymbols bytes (Err silence.NoMemory) = ⊤
CountsSymbols bytes (Err silence.Unread) = ⊥
CountsSymbols bytes (Err silence.Changed) = IsNoRuleText bytes
CountsSymbols bytes (Err silence.Cut) = ⊥

-- the same of the rule text with this name
abbrev pub FindsSymbols : Option Names → Type 0 → Option (List ℕ) → Bool →
    Result (Option ℕ) Silence → Type 0
FindsSymbols held read_fault name wanted (Ok symbols) = AreSymbols held name wanted symbols
FindsSymbols held read_fault name wanted (Err silence.NoMemory) = ⊤
FindsSymbols held read_fault name wanted (Err silence.Unread) =
    IsUnread held read_fault longest_log name
FindsSymbols held read_fault name wanted (Err silence.Changed) = HasNoRules held name wanted
FindsSymbols held read_fault name wanted (Err silence.Cut) = ⊥

-- the first bytes of the line, or why there are none
abbrev pub FindsLine : Option Names → Type 0 → Option (List ℕ) → Option ℕ →
    Result (Vec ℕ Global) Silence → Type 0
FindsLine held read_fault name wanted (Ok line) = IsLine held name wanted line.items
FindsLine held read_fault name wanted (Err silence.NoMemory) = ⊤
FindsLine held read_fault name wanted (Err silence.Unread) =
    IsUnread held read_fault longest_log name
FindsLine held read_fault name wanted (Err silence.Changed) = ⊥
FindsLine held read_fault name wanted (Err silence.Cut) = ⊥

-- all of it, by calls that leave the count of faults between the two numbers
abbrev pub FindsFacts : Option Names → ℕ → ℕ → Option (List ℕ) → Option Posed → Option Verdict →
    Result code.Facts Silence → Type 0
FindsFacts held before now name posed verdict (Ok facts) =
    AreFacts held name posed verdict (facts_view facts)
FindsFacts held before now name posed verdict (Err silence.NoMemory) = ⊤
FindsFacts held before now name posed verdict (Err silence.Unread) =
    (start : ℕ) → start ≤ before → IsUnread held (Rose start now) longest_log name
FindsFacts held before now name posed verdict (Err silence.Changed) =
    HasChangedFile held name posed verdict
FindsFacts held before now name posed verdict (Err silence.Cut) = ⊥

-- the rules with these domains, if there are any; none where they aren't lawful
abbrev pub IsInside : RuleParts → Option (List (List Row)) → Option RuleParts → Type 0
IsInside parts domains None = are_lawful parts domains ≡ false
IsInside parts domains (Some inside) =
    (are_lawful parts domains ≡ true) × (inside ≡ rules_inside parts domains)

-- what a fault of a look at a log means for a message
abbrev pub MeansLook : LookEnd → Silence → Type 0
MeansLook look_end.NoMemory end = end ≡ silence.NoMemory
MeansLook look_end.Unread end = end ≡ silence.Unread
MeansLook look_end.NoPlace end = end ≡ silence.Changed
