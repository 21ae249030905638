-- A log as text, and the first line of a text with which no log begins.
use Rattle.std.specs.Prelude.{◌≡◌, ℕ, suc, ◌==◌, Bool, true, ◌&&◌, Option, Some, None, Result, Ok, Err, List, [], ◌∷◌, ◌++◌, length, map, flat_map, if◌then◌else◌}
use Rattle.std.specs.List.{list_all}
use Rattle.rx_log.specs.declared.log.Log.{Log}
use Rattle.rx_log.specs.Lines.{has_widths, log_lines, version_of}
use Rattle.rx_logtext.specs.Lines.{in_line, lines_of}
use Rattle.rx_log.specs.declared.line.Line.{Line}
use Rattle.rx_log.specs.declared.version.Version.{Version}
use Rattle.rx_logtext.specs.declared.log_end.LogEnd.{LogEnd}
use Rattle.rx_logtext.specs.declared.log_end.LogEnd.TheVariants as end

-- ---- logs as text

-- each line, ended by a line feed
abbrev pub ended : List (List ℕ) → List ℕ
ended texts = flat_map (λ text. text ++ 10 ∷ []) texts

-- the text of each of the lines in logs of a version
abbrev pub line_texts : Version → List (Line × ℕ) → List (List ℕ)
line_texts version its = map (lines_of version).text its

-- the text of each line of a log
abbrev pub log_texts : Log → List (List ℕ)
log_texts log = line_texts (version_of log) (log_lines log)

-- the text of a log
abbrev pub log_text : Log → List ℕ
log_text log = ended (log_texts log)

-- all in it has a text
abbrev pub has_ranges : Log → Bool
has_ranges log =
    list_all (lines_of (version_of log)).in_range (log_lines log) && has_widths log

-- the bytes are the text of the log
pub record IsLog (text : List ℕ) (log : Log) : Type 0 where
  pub in_range : has_ranges log ≡ true
  pub is : text ≡ log_text log

-- ---- bad lines

-- a log has just these lines
pub record HasLines (log : Log) (texts : List (List ℕ)) : Type 0 where
  pub in_range : has_ranges log ≡ true
  pub are : log_texts log ≡ texts

-- some log begins with these lines
pub record Begins (texts : List (List ℕ)) : Type 0 where
  pub log : Log
  pub in_range : has_ranges log ≡ true
  pub more : List (List ℕ)
  pub are : log_texts log ≡ texts ++ more

-- no line feed is among the bytes
abbrev pub is_one_line : List ℕ → Bool
is_one_line bytes = list_all in_line bytes

-- The line with this number, counted from 1, is the first with which no log begins. The text begins
-- with the lines before it, and so does some log. The next line of the text is one with which none
-- begins; or the text ends there, and no log has just those lines; or a line feed is missing at its
-- end.
pub record IsFirstBad (text : List ℕ) (number : ℕ) : Type 0 where
  pub before : List (List ℕ)
  pub left : List ℕ
  pub joined : text ≡ ended before ++ left
  pub one_by_one : list_all is_one_line before ≡ true
  pub counted : number ≡ suc (length before)
  pub good_before : Begins before
  pub bad :
      (next rest : List ℕ) → left ≡ next ++ 10 ∷ rest → is_one_line next ≡ true
      → ¬ (Begins (before ++ next ∷ []))
  pub missing : left ≡ [] → (log : Log) → ¬ (HasLines log before)

-- what a reader of logs answers: the log whose text this is, or the first line with which no log
-- begins
abbrev pub ReadsLog : List ℕ → Result Log LogEnd → Type 0
ReadsLog text (Ok log) = IsLog text log
ReadsLog text (Err (end.BadLine number)) = IsFirstBad text number
ReadsLog text (Err end.TooDeep) = ⊥
ReadsLog text (Err end.OutOfRange) = ⊥
ReadsLog text (Err end.NoMemory) = Unit {0}

-- ---- cutting a text into lines

-- the first line of a text without its line feed, and what comes after that; None exactly where
-- there is no line feed
abbrev pub SplitsLine : List ℕ → Option (List ℕ × List ℕ) → Type 0
SplitsLine text (Some cut) = (text ≡ cut.0 ++ 10 ∷ cut.1) × (is_one_line cut.0 ≡ true)
SplitsLine text None = is_one_line text ≡ true

-- the bytes up to and with the first line feed, or all of them where there is none
abbrev pub up_to_feed : List ℕ → List ℕ
up_to_feed [] = []
up_to_feed (byte ∷ bytes) = if byte == 10 then byte ∷ [] else byte ∷ up_to_feed bytes
