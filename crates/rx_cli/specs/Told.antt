-- What a run hands out beside its status: the verdict whose line it reported.
use Rattle.std.specs.Prelude.{◌≡◌, ◌⊎◌, ℕ, List, Option, Some, None, MatchOption}
use Rattle.std.specs.Io.KnownBytes.{Appends}
use Rattle.rx_report.specs.Ends.{status_in, status_of}
use Rattle.rx_report.specs.Reports.{text_in}
use Rattle.rx_report.specs.Texts.{IsReportableVerdict, text_of}
use Rattle.rx_report.specs.declared.answer.Answer.{Answer}
use Rattle.rx_report.specs.declared.answer.Answer.TheVariants.{Line, Proof, RuleText, Found}
use Rattle.rx_report.specs.declared.ends.Status.{Status}
use Rattle.rx_report.specs.declared.ends.Status.TheVariants as Ends
use Rattle.rx_report.specs.declared.verdicts.Verdict.{Verdict}
use Rattle.rx_cli.specs.declared.top.Ending.{Ending}

-- what an answer says in one line
abbrev pub line_in : Answer → Option Verdict
line_in (Line verdict) = Some verdict
line_in (Proof text) = None
line_in (RuleText text) = None
line_in (Found found) = None

-- the verdict has a line, the status is the verdict's, and the line is what was written
pub record IsLine (old new : Option (List ℕ)) (status : Status) (verdict : Verdict) : Type 0 where
  pub reportable : IsReportableVerdict verdict
  pub status_is : status ≡ status_of verdict
  pub written : Appends old new (text_of verdict)

-- another answer was reported whole: a log, a rule text, or a comparison over points
pub record IsOther (old new : Option (List ℕ)) (status : Status) : Type 0 where
  pub answer : Answer
  pub no_line : line_in answer ≡ None
  pub status_is : status ≡ status_in answer
  pub written : Appends old new (text_in answer)

-- no line of a verdict was reported: another answer was, or not the whole report, or nothing
abbrev pub LacksLine : Option (List ℕ) → Option (List ℕ) → Status → Type 0
LacksLine old new status =
    IsOther old new status ⊎ ((status ≡ Ends.WriteFault) ⊎ (status ≡ Ends.NoMemory))

-- where a verdict is handed out, its line was reported; where none is, no line was
abbrev pub Tells : Option (List ℕ) → Option (List ℕ) → Ending → Type 0
Tells old new ending =
    MatchOption ending.verdict (LacksLine old new ending.status) (IsLine old new ending.status)
