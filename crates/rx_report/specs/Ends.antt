-- Exit statuses, and the status of each verdict.
use Rattle.std.specs.Prelude.{ℕ, ◌==◌, if◌then◌else◌}
use Rattle.rx_check.specs.declared.check_end.CheckEnd.{CheckEnd}
use Rattle.rx_check.specs.declared.check_end.CheckEnd.TheVariants as End
use Rattle.c_refute.specs.declared.findings.Compared.{Compared}
use Rattle.c_refute.specs.declared.findings.Compared.TheVariants as found
use Rattle.rx_report.specs.declared.answer.Answer.{Answer}
use Rattle.rx_report.specs.declared.answer.Answer.TheVariants.{Line, Proof, RuleText, Found}
use Rattle.rx_report.specs.declared.ends.Status.{Status}
use Rattle.rx_report.specs.declared.ends.Status.TheVariants as Ends
use Rattle.rx_report.specs.declared.verdicts.Verdict.{Verdict}
use Rattle.rx_report.specs.declared.verdicts.Verdict.TheVariants as Said

-- the exit status
abbrev pub code_of : Status → ℕ
code_of Ends.Equivalent = 0
code_of Ends.Unknown = 1
code_of Ends.Refused = 2
code_of Ends.Usage = 3
code_of Ends.ReadFault = 4
code_of Ends.WriteFault = 5
code_of Ends.NoMemory = 6
code_of Ends.Large = 7
code_of Ends.Different = 8

-- how a run ends whose log has this fault
abbrev pub check_status : CheckEnd → Status
check_status (End.Large place) = Ends.Large
check_status end = Ends.Refused

-- how a run ends that has shown n examples, of which m are proved
abbrev pub demo_status : ℕ → ℕ → Status
demo_status pairs equivalent = if pairs == equivalent then Ends.Equivalent else Ends.Unknown

-- how a run ends that reports this
abbrev pub status_of : Verdict → Status
status_of Said.Equivalent = Ends.Equivalent
status_of Said.NoRanks = Ends.Unknown
status_of (Said.Depth depth) = Ends.Unknown
status_of (Said.Visits visits) = Ends.Unknown
status_of (Said.Demo pairs equivalent) = demo_status pairs equivalent
status_of Said.LongSource = Ends.Refused
status_of Said.LongLog = Ends.Refused
status_of (Said.Lex fault) = Ends.Refused
status_of (Said.Parse end) = Ends.Refused
status_of (Said.Scope end) = Ends.Refused
status_of (Said.WideLiteral token) = Ends.Refused
status_of (Said.NoFunction name) = Ends.Refused
status_of (Said.Arity first second) = Ends.Refused
status_of (Said.PreLex fault) = Ends.Refused
status_of (Said.PreParse end) = Ends.Refused
status_of (Said.PreName token) = Ends.Refused
status_of (Said.Box count) = Ends.Refused
status_of (Said.Line number) = Ends.Refused
status_of (Said.Check end) = check_status end
status_of (Said.RuleLine number) = Ends.Refused
status_of (Said.NotMade rule) = Ends.Refused
status_of Said.NoCover = Ends.Unknown
status_of Said.Inductive = Ends.Equivalent
status_of Said.Usage = Ends.Usage
status_of Said.ReadFault = Ends.ReadFault
status_of Said.LargeTranslate = Ends.Large
status_of Said.LargePre = Ends.Large
status_of Said.LargeSearch = Ends.Large
status_of Said.LargeRules = Ends.Large

-- how a run ends that has compared two functions over points
abbrev pub found_status : Compared → Status
found_status (found.Different arguments first second) = Ends.Different
found_status (found.Alike points undecided) = Ends.Unknown

-- how a run ends that answers this
abbrev pub status_in : Answer → Status
status_in (Line verdict) = status_of verdict
status_in (Proof text) = Ends.Equivalent
status_in (RuleText text) = Ends.Equivalent
status_in (Found found) = found_status found
