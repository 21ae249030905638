-- How an answer is reported: the status at the end of the run, and the text.
use Rattle.std.specs.Prelude.{◌≡◌, ℕ, List, ⊤}
use Rattle.rx_report.specs.Ends.{status_in}
use Rattle.rx_report.specs.Texts.{IsReportableVerdict, found_text, text_of}
use Rattle.rx_report.specs.declared.answer.Answer.{Answer}
use Rattle.rx_report.specs.declared.answer.Answer.TheVariants.{Line, Proof, RuleText, Found}
use Rattle.rx_report.specs.declared.ends.Status.{Status}

-- the text of an answer
abbrev pub text_in : Answer → List ℕ
text_in (Line verdict) = text_of verdict
text_in (Proof text) = text
text_in (RuleText text) = text
text_in (Found found) = found_text found

-- how an answer is reported
abbrev pub IsReport : Answer → Status → List ℕ → Type 0
IsReport answer status text = (status ≡ status_in answer) × (text ≡ text_in answer)

-- it has a text
abbrev pub IsReportable : Answer → Type 0
IsReportable (Line verdict) = IsReportableVerdict verdict
IsReportable (Proof text) = ⊤
IsReportable (RuleText text) = ⊤
IsReportable (Found found) = ⊤
