-- What a run answers to its words and to what it read.
use Rattle.std.specs.Prelude.{◌≡◌, ◌⊎◌, ℕ, ◌<◌, List, Option, Some, None, ⊤, length, nat_lt, IsSome, MatchBool}
use Rattle.rx_io.specs.Outside.{Names}
use Rattle.rx_command.specs.Commands.{Command, Compare, Rules, Translate, Demo, Comparison, Functions, Prove, Check, Refute, Induction, Find, Replay, command_of}
use Rattle.rx_command.specs.declared.command.Extent.{Extent}
use Rattle.rx_report.specs.declared.answer.Answer.{Answer}
use Rattle.rx_report.specs.declared.answer.Answer.TheVariants.{Line}
use Rattle.rx_report.specs.declared.ends.Status.TheVariants as Ends
use Rattle.rx_report.specs.declared.verdicts.Verdict.{Verdict}
use Rattle.rx_report.specs.declared.verdicts.Verdict.TheVariants as Said
use Rattle.rx_cli.specs.Agreement.{Agrees}
use Rattle.rx_cli.specs.Checks.{IsChecked}
use Rattle.rx_report.specs.Ends.{status_in}
use Rattle.rx_cli.specs.Examples.{IsShown, example_functions, example_source}
use Rattle.rx_cli.specs.Inductions.{IsReplayed, IsSought, HasInductiveTheorem}
use Rattle.rx_cli.specs.Proofs.{IsProved}
use Rattle.rx_cli.specs.Problems.{longest_source}
use Rattle.rx_cli.specs.Refutations.{IsRefuted, Refutes}
use Rattle.rx_cli.specs.Translations.{HasRuleText, IsWritten}

-- ---- what was read

-- what was read, by its role
pub record Input : Type 0 where
  pub source : Option (List ℕ)
  pub log : Option (List ℕ)

-- what was read under a name: what is held there where the names are known, else some bytes
abbrev pub IsHeld : Option Names → List ℕ → Option (List ℕ) → Type 0
IsHeld None name given = (bytes : List ℕ) × (given ≡ Some bytes)
IsHeld (Some names) name given = given ≡ names name

-- the functions that are compared
abbrev pub functions_in : Comparison → Functions
functions_in (Prove f effort) = f
functions_in (Check f log) = f
functions_in (Refute f extent) = f

-- the log that is read, where one is
abbrev pub IsLogHeld : Option Names → Comparison → Option (List ℕ) → Type 0
IsLogHeld held (Prove f effort) given = ⊤
IsLogHeld held (Check f log) given = IsHeld held log given
IsLogHeld held (Refute f extent) given = ⊤

-- the rule text whose equation is proved
abbrev pub file_in : Induction → List ℕ
file_in (Find file effort) = file
file_in (Replay file log) = file

-- the log that is read for it, where one is
abbrev pub IsInductionLogHeld : Option Names → Induction → Option (List ℕ) → Type 0
IsInductionLogHeld held (Find file effort) given = ⊤
IsInductionLogHeld held (Replay file log) given = IsHeld held log given

-- what was read for a command
abbrev pub IsInput : Option Names → Option Command → Input → Type 0
IsInput held None given = ⊤
IsInput held (Some (Demo pairs)) given = ⊤
IsInput held (Some (Compare comparison)) given =
    IsHeld held (functions_in comparison).file given.source × IsLogHeld held comparison given.log
IsInput held (Some (Rules task)) given =
    IsHeld held (file_in task) given.source × IsInductionLogHeld held task given.log
IsInput held (Some (Translate f)) given = IsHeld held f.file given.source

-- ---- answers

-- the answer to a comparison in a text
abbrev pub IsDone : Comparison → List ℕ → Option (List ℕ) → Answer → Type 0
IsDone (Prove f effort) source log answer = IsProved f effort source answer
IsDone (Refute f extent) source log answer = IsRefuted f extent source answer
IsDone (Check f name) source log answer =
    (verdict : Verdict) × IsChecked f source log verdict × (answer ≡ Line verdict)

-- the answer to what was read in the place of the source: nothing, too much, or another text, for
-- which it is said what the answer is
abbrev pub OnSource : (List ℕ → Answer → Type 0) → Option (List ℕ) → Answer → Type 0
OnSource answers None answer = answer ≡ Line Said.ReadFault
OnSource answers (Some source) answer =
    MatchBool (nat_lt longest_source (length source)) (answer ≡ Line Said.LongSource)
    (answers source answer)

-- the answer to a comparison and to what was read for it
abbrev pub OnComparison : Comparison → Option (List ℕ) → Option (List ℕ) → Answer → Type 0
OnComparison comparison source log answer =
    OnSource (λ text said. IsDone comparison text log said) source answer

-- the answer where the equation of a rule text is to be proved
abbrev pub IsInductionDone : Induction → List ℕ → Option (List ℕ) → Answer → Type 0
IsInductionDone (Find file effort) source log answer = IsSought effort source answer
IsInductionDone (Replay file name) source log answer =
    (verdict : Verdict) × IsReplayed source log verdict × (answer ≡ Line verdict)

abbrev pub OnInduction : Induction → Option (List ℕ) → Option (List ℕ) → Answer → Type 0
OnInduction task source log answer =
    OnSource (λ text said. IsInductionDone task text log said) source answer

-- the answer to a command and to what was read for it
abbrev pub Answers : Option Command → Input → Answer → Type 0
Answers None given answer = answer ≡ Line Said.Usage
Answers (Some (Demo pairs)) given answer =
    (verdict : Verdict) × IsShown pairs verdict × (answer ≡ Line verdict)
Answers (Some (Compare comparison)) given answer =
    OnComparison comparison given.source given.log answer
Answers (Some (Rules task)) given answer = OnInduction task given.source given.log answer
Answers (Some (Translate f)) given answer = OnSource (IsWritten f) given.source answer

-- the functions of the first examples agree
abbrev pub ExamplesAgree : ℕ → Type 0
ExamplesAgree pairs = (k : ℕ) → k < pairs → Agrees (example_source k) example_functions

-- for a comparison: both functions agree in the text that was read; for `rules`: the equation of the
-- rule text that was read is an inductive theorem of its rules; for `translate`: the rules of both
-- functions have a text; for `demo`: the functions of each example agree
abbrev pub Means : Option Command → Input → Type 0
Means None given = ⊥
Means (Some (Demo pairs)) given = ExamplesAgree pairs
Means (Some (Compare comparison)) given =
    (source : List ℕ) × (given.source ≡ Some source) × Agrees source (functions_in comparison)
Means (Some (Rules task)) given = (source : List ℕ) × (given.source ≡ Some source) × HasInductiveTheorem source
Means (Some (Translate f)) given =
    (source : List ℕ) × (given.source ≡ Some source) × HasRuleText source f

-- the answer to what was read, which is right where it says yes
pub record AnswersSoundly (held : Option Names) (command : Option Command) (answer : Answer) : Type
    0
  where
    pub given : Input
    pub is_given : IsInput held command given
    pub is : Answers command given answer
    pub right : status_in answer ≡ Ends.Equivalent → Means command given

-- an answer to what was read, or a read fault because a call on the files found a fault
abbrev pub AnswersOrFails : Option Names → Type 0 → Option Command → Answer → Type 0
AnswersOrFails held read_fault command answer =
    AnswersSoundly held command answer
    ⊎ (IsSome command × read_fault × (answer ≡ Line Said.ReadFault))

-- the same of a text that is under the name, where that is known; where it isn't, of some text
abbrev pub Holds : Option Names → Command → Type 0
Holds held (Demo pairs) = ExamplesAgree pairs
Holds held (Compare comparison) =
    (source : List ℕ) × IsHeld held (functions_in comparison).file (Some source)
    × Agrees source (functions_in comparison)
Holds held (Rules task) =
    (source : List ℕ) × IsHeld held (file_in task) (Some source) × HasInductiveTheorem source
Holds held (Translate f) =
    (source : List ℕ) × IsHeld held f.file (Some source) × HasRuleText source f

-- what the words ask about holds
abbrev pub AreEqual : Option Names → List (List ℕ) → Type 0
AreEqual held words = (command : Command) × (command_of words ≡ Some command) × Holds held command

-- the words ask for a counterexample, and a text that is under the name, where that is known, has
-- one; where it isn't known, some text
abbrev pub IsRefutedBy : Option Names → List (List ℕ) → Type 0
IsRefutedBy held words =
    (f : Functions) × (extent : Extent) × (command_of words ≡ Some (Compare (Refute f extent)))
    × ((source : List ℕ) × IsHeld held f.file (Some source) × Refutes source f)
