-- What a reader of a log keeps between two lines: the place, and the log as far as it was read.
use Rattle.std.specs.Prelude.{◌≡◌, ℕ, true, Option, Some, None, List}
use Rattle.std.specs.List.{list_all}
use Rattle.rx_log.specs.declared.log.Log.{Log}
use Rattle.rx_logtext.specs.Lines.{IsText, lines_of}
use Rattle.rx_log.specs.Lines.{has_widths, version_of}
use Rattle.rx_logtext.specs.Logs.{line_texts}
use Rattle.rx_log.specs.Places.{after, after_all}
use Rattle.rx_log.specs.Reading.{IsAt, lines_to}
use Rattle.rx_log.specs.declared.line.Line.{Line}
use Rattle.rx_log.specs.declared.line_state.LineState.{LineState}
use Rattle.rx_log.specs.declared.line_state.LineState.TheVariants.{AtHeader}
use Rattle.rx_log.specs.declared.version.Version.{Version}

-- a reader at the place, with the log so far, has taken these lines
pub record HasTaken (place : LineState) (log : Log) (texts : List (List ℕ)) : Type 0 where
  pub at : IsAt place log
  pub widths : has_widths log ≡ true
  pub in_range : list_all (lines_of (version_of log)).in_range (lines_to place log) ≡ true
  pub are : line_texts (version_of log) (lines_to place log) ≡ texts
  pub arrives : after_all (Some AtHeader) (lines_to place log) ≡ Some place

-- a line that may come at the place has these bytes in logs of the version
pub record MayCome (version : Version) (place : LineState) (bytes : List ℕ) : Type 0 where
  pub next : Line × ℕ
  pub behind : LineState
  pub is : IsText (lines_of version) bytes next
  pub leads : after place next ≡ Some behind

-- what a reader of the next line answers: the line and the place after it; None exactly where no
-- line that may come has these bytes
abbrev pub ReadsNext : Version → LineState → List ℕ → Option (Line × LineState) → Type 0
ReadsNext version place bytes (Some it) =
    (symbol : ℕ)
    × (IsText (lines_of version) bytes (it.0, symbol)
    × (after place (it.0, symbol) ≡ Some it.1))
ReadsNext version place bytes None = ¬ (MayCome version place bytes)
