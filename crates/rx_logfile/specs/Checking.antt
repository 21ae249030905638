-- What is kept of a log that is replayed while it is read.
use Rattle.std.specs.Prelude.{◌≡◌, ◌≤◌, ⊤, ℕ, Bool, true, false, Option, Some, None, List, [], ◌++◌, length}
use Rattle.rx_check.specs.Replay as lines
use Rattle.rx_check.specs.Replay.{HasRoots, log_of, place_after}
use Rattle.rx_log.specs.declared.line.Line.{Line}
use Rattle.rx_log.specs.declared.log.Log.{Log}
use Rattle.rx_logtext.specs.Logs.{up_to_feed}
use Rattle.rx_logtext.specs.Readers as text
use Rattle.rx_logtext.specs.Readers.{has_bad, place_of}
use Rattle.rx_term.specs.declared.rule.Equation.{Equation}
use Rattle.rx_term.specs.declared.rule_set.RuleParts.{RuleParts}
use Rattle.rx_logfile.specs.declared.log_check.LogCheck.{LogCheck}

-- how many lines were taken
abbrev pub lines_in : LogCheck → ℕ
lines_in check = text.lines_in check.reader

-- the reader and the replay are at one place of the log, and no kept hypothesis has a result as its
-- left side
pub record IsInStep (check : LogCheck) : Type 0 where
  pub place : place_after check.replayer ≡ place_of check.reader
  pub roots : HasRoots check.replayer

-- all bytes were looked at, and the lines that they end were replayed
pub record IsReplayed (check : LogCheck) (parts : RuleParts) (goal : Equation) (log : Log)
    (more : List ℕ)
    : Type 0 where
  pub its : List (Line × ℕ)
  pub are : log_of its ≡ log
  pub stands : lines.StandsFor check.replayer parts goal its
  pub whole : more ≡ []

-- unless a line was bad
abbrev pub UnlessBad : Bool → Type 0 → Type 0
UnlessBad true replayed = ⊤
UnlessBad false replayed = replayed

-- what is kept is what the bytes give for the rules and the goal; after a bad line nothing is
-- looked at
pub record StandsFor (check : LogCheck) (parts : RuleParts) (goal : Equation) (bytes : List ℕ)
    : Type 0 where
  pub log : Log
  pub front : List ℕ
  pub more : List ℕ
  pub joined : bytes ≡ front ++ more
  pub reader : text.StandsFor check.reader log front
  pub replayed : UnlessBad (has_bad check.reader) (IsReplayed check parts goal log more)

-- what is kept once the piece was taken up to and with its first line feed; the whole piece where a
-- line is bad
abbrev pub TakesLine : LogCheck → RuleParts → Equation → List ℕ → List ℕ → Option ℕ → Type 0
TakesLine new parts goal bytes piece None = StandsFor new parts goal (bytes ++ piece)
TakesLine new parts goal bytes piece (Some count) =
    StandsFor new parts goal (bytes ++ up_to_feed piece)

-- n bytes were taken
abbrev pub IsCount : List ℕ → ℕ → Type 0
IsCount piece count = (count ≡ length (up_to_feed piece)) × (count ≤ length piece)
