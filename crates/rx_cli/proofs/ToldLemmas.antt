-- What a run tells beside its status is what it reported.
use Rattle.std.specs.Prelude.{◌≡◌, ℕ, List, Option, MatchOption, ⊤}
use Rattle.std.proofs.Common.{inl, refl, subst, sym}
use Rattle.std.specs.Io.KnownBytes.{Appends}
use Rattle.rx_report.specs.Ends.{status_in}
use Rattle.rx_report.specs.Reports.{IsReportable, text_in}
use Rattle.rx_report.specs.Texts.{IsReportableVerdict}
use Rattle.rx_report.specs.declared.answer.Answer.{Answer}
use Rattle.rx_report.specs.declared.answer.Answer.TheVariants.{Line, Proof, RuleText, Found}
use Rattle.rx_report.specs.declared.ends.Status.{Status}
use Rattle.rx_report.specs.declared.verdicts.Verdict.{Verdict}
use Rattle.rx_cli.specs.Told.{Tells, line_in}

-- what is told where the whole report was written
told_of : (old new : Option (List ℕ)) (answer : Answer) → IsReportable answer →
    Appends old new (text_in answer) →
    Tells old new (record { status = status_in answer; verdict = line_in answer })
told_of old new (Line verdict) reportable written =
    record { reportable = reportable; status_is = refl; written = written }
told_of old new (Proof text) reportable written =
    inl (record { answer = Proof text; no_line = refl; status_is = refl; written = written })
told_of old new (RuleText text) reportable written =
    inl (record { answer = RuleText text; no_line = refl; status_is = refl; written = written })
told_of old new (Found found) reportable written =
    inl (record { answer = Found found; no_line = refl; status_is = refl; written = written })

-- the same, by what the calls answered
pub told_as : (old new : Option (List ℕ)) (answer : Answer) (status : Status)
    (verdict : Option Verdict) (text : List ℕ) →
    IsReportable answer → status ≡ status_in answer → verdict ≡ line_in answer →
    text ≡ text_in answer → Appends old new text →
    Tells old new (record { status = status; verdict = verdict })
told_as old new answer status verdict text reportable is_status is_verdict is_text written =
    let P : Status → Type 0 = λ s. Tells old new (record { status = s; verdict = verdict }) in
    let Q : Option Verdict → Type 0 =
    λ v. Tells old new (record { status = status_in answer; verdict = v }) in
    subst P (sym is_status) (subst Q (sym is_verdict)
    (told_of old new answer reportable (subst (λ t. Appends old new t) is_text written)))

-- what is told has a line
pub reportable_line : (answer : Answer) (verdict : Option Verdict) → IsReportable answer →
    verdict ≡ line_in answer → MatchOption verdict ⊤ IsReportableVerdict
reportable_line answer verdict reportable is_verdict =
    subst (λ v. MatchOption v ⊤ IsReportableVerdict) (sym is_verdict) (of_answer answer reportable)
  where
    of_answer : (answer : Answer) → IsReportable answer →
        MatchOption (line_in answer) ⊤ IsReportableVerdict
    of_answer (Line verdict) reportable = reportable
    of_answer (Proof text) reportable = tt
    of_answer (RuleText text) reportable = tt
    of_answer (Found found) reportable = tt
