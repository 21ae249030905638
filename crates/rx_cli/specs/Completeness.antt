-- What words ask about can be shown, by the log that is held, by a search that closes, or by the text
-- of rules: then a run says yes, unless a call finds a fault or there is no memory.
use Rattle.std.specs.Prelude.{◌≡◌, ◌⊎◌, ◌≤◌, ℕ, true, List, Some, length}
use Rattle.c_front.specs.declared.stages.Next.{Next}
use Rattle.c_front.specs.declared.stages.Next.TheVariants.{Goes}
use Rattle.rx_command.specs.Commands.{Check, Compare, Find, Functions, Prove, Replay, Rules, Translate, command_of}
use Rattle.rx_command.specs.declared.command.Effort.{Effort}
use Rattle.rx_find_cover.specs.Coverable.{is_coverable}
use Rattle.rx_io.specs.Outside.{Names}
use Rattle.rx_log.specs.Acceptance.{IsAccepted}
use Rattle.rx_log.specs.declared.log.Log.{Log}
use Rattle.rx_logtext.specs.Logs.{IsLog}
use Rattle.rx_search.specs.Search.{Closed}
use Rattle.rx_moves.specs.Moves.{Move}
use Rattle.rx_report.specs.declared.ends.Status.{Status}
use Rattle.rx_report.specs.declared.ends.Status.TheVariants as Ends
use Rattle.rx_report.specs.declared.verdicts.Verdict.{Verdict}
use Rattle.rx_cli.specs.declared.problems.Problem.{Problem}
use Rattle.rx_cli.specs.Checks.{longest_log}
use Rattle.rx_cli.specs.Problems.{asked, longest_source, posed}
use Rattle.rx_cli.specs.Searches.{sought}
use Rattle.rx_cli.specs.Translations.{IsTextOf}

-- the text that is held poses this problem, as the stage says
pub record Holds (names : Names) (file : List ℕ) (stage : List ℕ → Next Verdict Problem → Type 0)
    (problem : Problem) : Type 0 where
  pub source : List ℕ
  pub held : names file ≡ Some source
  pub short : length source ≤ longest_source
  pub poses : stage source (Goes problem)

-- the log that is held is accepted for that
pub record HoldsAccepted (names : Names) (file : List ℕ)
    (stage : List ℕ → Next Verdict Problem → Type 0) (name : List ℕ) : Type 0 where
  pub problem : Problem
  pub source : Holds names file stage problem
  pub bytes : List ℕ
  pub held : names name ≡ Some bytes
  pub short : length bytes ≤ longest_log
  pub log : Log
  pub is : IsLog bytes log
  pub accepted : IsAccepted problem.rules problem.goal log

-- a search of this effort closes for that
pub record HoldsClosed (names : Names) (file : List ℕ)
    (stage : List ℕ → Next Verdict Problem → Type 0) (effort : Effort) : Type 0 where
  pub problem : Problem
  pub source : Holds names file stage problem
  pub moves : List Move
  pub closes :
      sought problem.rules problem.goal effort.depth effort.budget ≡ Closed moves

-- the problem that is posed has a text
pub record HoldsWritable (names : Names) (f : Functions) : Type 0 where
  pub problem : Problem
  pub source : Holds names f.file (asked f) problem
  pub text : List ℕ
  pub is : IsTextOf problem text

-- the words ask for a replay of a log that is accepted
abbrev pub CanReplay : Names → List (List ℕ) → Type 0
CanReplay names words =
    ((f : Functions) × (name : List ℕ) × (command_of words ≡ Some (Compare (Check f name)))
    × HoldsAccepted names f.file (asked f) name)
    ⊎ ((file : List ℕ) × (name : List ℕ) × (command_of words ≡ Some (Rules (Replay file name)))
    × HoldsAccepted names file posed name)

-- they ask for a search that closes; the rules of a rule text are coverable besides
abbrev pub CanClose : Names → List (List ℕ) → Type 0
CanClose names words =
    ((f : Functions) × (effort : Effort)
    × (command_of words ≡ Some (Compare (Prove f effort)))
    × HoldsClosed names f.file (asked f) effort)
    ⊎ ((file : List ℕ) × (effort : Effort)
    × (command_of words ≡ Some (Rules (Find file effort)))
    × ((closed : HoldsClosed names file posed effort)
    × (is_coverable closed.problem.rules ≡ true)))

-- the words ask for the replay of a log that is accepted, for a search that closes, or for rules that
-- have a text
abbrev pub CanShow : Names → List (List ℕ) → Type 0
CanShow names words =
    CanReplay names words ⊎ (CanClose names words
    ⊎ ((f : Functions) × (command_of words ≡ Some (Translate f)) × HoldsWritable names f))

-- a run says yes, or there was no memory, or a call found a fault
abbrev pub SaysYes : Type 0 → Type 0 → Status → Type 0
SaysYes read_fault write_fault status =
    (status ≡ Ends.Equivalent)
    ⊎ ((status ≡ Ends.NoMemory)
    ⊎ (((status ≡ Ends.ReadFault) × read_fault) ⊎ ((status ≡ Ends.WriteFault) × write_fault)))
