-- What a reader that is fed a text piece by piece keeps of it, and what it answers.
use Rattle.std.specs.Prelude.{◌≡◌, ◌⊎◌, ℕ, suc, Bool, true, false, Option, Some, None, Result, Ok, Err, List, [], ◌∷◌, ◌++◌, length}
use Rattle.rx_log.specs.Lines.{version_of}
use Rattle.rx_log.specs.Places.{after}
use Rattle.rx_log.specs.Reading.{pushed}
use Rattle.rx_log.specs.declared.line.Line.{Line}
use Rattle.rx_log.specs.declared.line.Line.TheVariants as line
use Rattle.rx_log.specs.declared.log.Log.{Log}
use Rattle.rx_log.specs.declared.line_state.LineState.{LineState}
use Rattle.rx_log.specs.declared.line_state.LineState.TheVariants.{Finished}
use Rattle.rx_log.specs.declared.version.Version.{Version}
use Rattle.rx_log.specs.declared.version.Version.TheVariants.{Two}
use Rattle.rx_logtext.specs.Logs.{Begins, IsFirstBad, IsLog, ended, is_one_line, up_to_feed}
use Rattle.rx_logtext.specs.Reading.{HasTaken}
use Rattle.rx_logtext.specs.declared.log_end.LogEnd.{LogEnd}
use Rattle.rx_logtext.specs.declared.log_end.LogEnd.TheVariants as end
use Rattle.rx_logtext.specs.declared.reader.LogReader.{LogReader}

-- ---- what is kept

-- after these lines comes one more, ended, with which no log begins
pub record IsBadNext (texts : List (List ℕ)) (left : List ℕ) : Type 0 where
  pub next : List ℕ
  pub is : left ≡ next ++ 10 ∷ []
  pub one : is_one_line next ≡ true
  pub bad : ¬ (Begins (texts ++ next ∷ []))

-- what comes after the lines that were taken: the next line so far, or a bad line
abbrev pub IsLeft : Bool → List ℕ → List (List ℕ) → List ℕ → Type 0
IsLeft false line texts left = (left ≡ line) × (is_one_line left ≡ true)
IsLeft true line texts left = IsBadNext texts left

-- The bytes are lines of a log up to the reader's place, of which this is the log so far, and after
-- them the next line so far, or a line with which no log begins.
pub record StandsFor (reader : LogReader) (log : Log) (bytes : List ℕ) : Type 0 where
  pub texts : List (List ℕ)
  pub version : reader.version ≡ version_of log
  pub taken : HasTaken reader.place log texts
  pub counted : reader.taken ≡ length texts
  pub left : List ℕ
  pub joined : bytes ≡ ended texts ++ left
  pub is_left : IsLeft reader.is_bad reader.line texts left

-- which lines may come next, and how many have come
abbrev pub place_of : LogReader → LineState
place_of reader = reader.place

abbrev pub lines_in : LogReader → ℕ
lines_in reader = reader.taken

-- the version of a log after one line more
abbrev pub version_after : Version → Line → Version
version_after version line.Header2 = Two
version_after version other = version

-- no log begins with the last line
abbrev pub has_bad : LogReader → Bool
has_bad reader = reader.is_bad

-- ---- what is answered

-- the log with what a line says, if there is one
abbrev pub pushed_if : Option Line → Log → Log
pushed_if None log = log
pushed_if (Some line) log = pushed line log

-- such a line may come at the first place, and leads to the second
abbrev pub MayLead : LineState → Line → LineState → Type 0
MayLead place line next = (symbol : ℕ) × (after place (line, symbol) ≡ Some next)

-- how many lines came
abbrev pub count_of : Option Line → ℕ
count_of None = 0
count_of (Some line) = 1

-- no line came, or one that may come
abbrev pub IsNext : LineState → Option Line → LineState → Type 0
IsNext place None next = next ≡ place
IsNext place (Some line) next = MayLead place line next

-- a line comes exactly where the piece has a line feed
abbrev pub EndsLine : List ℕ → Option Line → Type 0
EndsLine piece None = is_one_line piece ≡ true
EndsLine piece (Some line) = is_one_line piece ≡ false

-- what a reader takes of a piece: nothing after a bad line
abbrev pub taken_of : Bool → List ℕ → List ℕ
taken_of true piece = []
taken_of false piece = up_to_feed piece

-- what a reader that represents these bytes answers to a piece, and what it represents then
abbrev pub Takes : LogReader → Log → List ℕ → List ℕ → LogReader → Result (ℕ × Option Line) LogEnd →
    Type 0
Takes old log bytes piece new (Ok taken) =
    (old.is_bad ≡ false) × ((new.is_bad ≡ false)
    × StandsFor new (pushed_if taken.1 log) (bytes ++ up_to_feed piece))
Takes old log bytes piece new (Err (end.BadLine number)) =
    (new.is_bad ≡ true) × ((number ≡ suc new.taken)
    × StandsFor new log (bytes ++ taken_of old.is_bad piece))
Takes old log bytes piece new (Err end.TooDeep) = ⊥
Takes old log bytes piece new (Err end.OutOfRange) = ⊥
Takes old log bytes piece new (Err end.NoMemory) = old.is_bad ≡ false

-- the place is the end, no line has begun after it, and none was bad
abbrev pub IsWhole : LogReader → Bool → Type 0
IsWhole reader true =
    (reader.place ≡ Finished) × ((reader.is_bad ≡ false) × (reader.line ≡ []))
IsWhole reader false =
    reader.place ≡ Finished → reader.is_bad ≡ false → ¬ (reader.line ≡ [])

-- the bytes are the text of the log; or this is their first bad line
abbrev pub Finishes : Log → List ℕ → Result (Unit {0}) LogEnd → Type 0
Finishes log bytes (Ok done) = IsLog bytes log
Finishes log bytes (Err (end.BadLine number)) = IsFirstBad bytes number
Finishes log bytes (Err end.TooDeep) = ⊥
Finishes log bytes (Err end.OutOfRange) = ⊥
Finishes log bytes (Err end.NoMemory) = ⊥

-- a reader that represents the front of a text has taken all that it takes of it: the whole text,
-- or a line with which no log begins, whatever is after that
abbrev pub HasTakenAll : LogReader → List ℕ → Type 0
HasTakenAll reader behind = (behind ≡ []) ⊎ (has_bad reader ≡ true)

-- whole texts are read alike, except when out of memory
abbrev pub IsReadAlike : Log → Result (Unit {0}) LogEnd → Result Log LogEnd → Type 0
IsReadAlike log answer (Ok read) = (read ≡ log) × (answer ≡ Ok tt)
IsReadAlike log answer (Err end.NoMemory) = Unit {0}
IsReadAlike log answer (Err other) = answer ≡ Err other
