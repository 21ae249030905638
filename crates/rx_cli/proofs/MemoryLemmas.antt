-- What a fault of a run says where no call is made to fail.
use Rattle.std.proofs.Common.{◌≡◌, ◌<◌, ◌∙◌, List, ℕ, Option, Some, Bool, true, false, inl, inr, sym, subst, length}
use Rattle.std.specs.Prelude.{◌==◌, if◌then◌else◌}
use Rattle.rx_check.specs.declared.check_end.CheckEnd.{CheckEnd}
use Rattle.rx_check.specs.declared.check_end.CheckEnd.TheVariants as End
use Rattle.c_refute.specs.declared.findings.Compared.TheVariants as found
use Rattle.rx_io.specs.Outside.{Names, AppendsPrefix}
use Rattle.rx_report.specs.declared.answer.Answer.{Answer}
use Rattle.rx_report.specs.declared.answer.Answer.TheVariants.{Line, Proof, RuleText, Found}
use Rattle.rx_report.specs.declared.ends.Status.{Status}
use Rattle.rx_report.specs.declared.ends.Status.TheVariants as Ends
use Rattle.rx_report.specs.declared.verdicts.Verdict.{Verdict}
use Rattle.rx_report.specs.declared.verdicts.Verdict.TheVariants as Said
use Rattle.rx_report.specs.Ends.{status_in, check_status, status_of}
use Rattle.rx_cli.specs.InMemory.{IsAbsent, IsTooLong}
use Rattle.rx_cli.specs.Run.{Reports, RunEnds}

-- no end of a replay has the status of a write fault
never_cut_check : (end : CheckEnd) → check_status end ≡ Ends.WriteFault → ⊥
never_cut_check (End.BadDomain symbol) e = cc
never_cut_check (End.NotKept part) e = cc
never_cut_check (End.Step step end) e = cc
never_cut_check (End.Unfinished goals) e = cc
never_cut_check (End.NotCovered symbol) e = cc
never_cut_check (End.BadRanks symbol) e = cc
never_cut_check (End.NotLower pair) e = cc
never_cut_check (End.Large place) e = cc
never_cut_check End.NoMemory e = cc

never_cut_demo : (b : Bool) → (if b then Ends.Equivalent else Ends.Unknown) ≡ Ends.WriteFault → ⊥
never_cut_demo true e = cc
never_cut_demo false e = cc

-- no report has it
never_cut_line : (verdict : Verdict) → status_of verdict ≡ Ends.WriteFault → ⊥
never_cut_line Said.Equivalent e = cc
never_cut_line Said.NoRanks e = cc
never_cut_line (Said.Depth depth) e = cc
never_cut_line (Said.Visits visits) e = cc
never_cut_line (Said.Demo pairs equivalent) e = never_cut_demo (pairs == equivalent) e
never_cut_line Said.LongSource e = cc
never_cut_line Said.LongLog e = cc
never_cut_line (Said.Lex fault) e = cc
never_cut_line (Said.Parse end) e = cc
never_cut_line (Said.Scope end) e = cc
never_cut_line (Said.WideLiteral token) e = cc
never_cut_line (Said.NoFunction name) e = cc
never_cut_line (Said.Arity first second) e = cc
never_cut_line (Said.PreLex fault) e = cc
never_cut_line (Said.PreParse end) e = cc
never_cut_line (Said.PreName token) e = cc
never_cut_line (Said.Box count) e = cc
never_cut_line (Said.Line number) e = cc
never_cut_line (Said.Check end) e = never_cut_check end e
never_cut_line (Said.RuleLine number) e = cc
never_cut_line (Said.NotMade rule) e = cc
never_cut_line Said.NoCover e = cc
never_cut_line Said.Inductive e = cc
never_cut_line Said.Usage e = cc
never_cut_line Said.ReadFault e = cc
never_cut_line Said.LargeTranslate e = cc
never_cut_line Said.LargePre e = cc
never_cut_line Said.LargeSearch e = cc
never_cut_line Said.LargeRules e = cc

never_cut : (answer : Answer) → status_in answer ≡ Ends.WriteFault → ⊥
never_cut (Line verdict) e = never_cut_line verdict e
never_cut (Proof text) e = cc
never_cut (RuleText text) e = cc
never_cut (Found (found.Different arguments first second)) e = cc
never_cut (Found (found.Alike points undecided)) e = cc

-- such a report is of what is held
held_reports : (names : Names) (read_fault : Type 0) (words : List (List ℕ)) (status : Status)
    (text : List ℕ) → (read_fault → ⊥) → Reports (Some names) read_fault words status text →
    Reports (Some names) ⊥ words status text
held_reports names read_fault words status text works (answer, inl answered, (is, said)) =
    (answer, inl answered, (is, said))
held_reports names read_fault words status text works (answer, inr (some, fault, line), (is, said))
    =
    absurd (works fault)

-- where no call on the files finds a fault, a read fault says that a file isn't held
pub read_fault_absent : (names : Names) (read_fault write_fault : Type 0) (words : List (List ℕ))
    (old new : Option (List ℕ)) (status : Status) →
    RunEnds (Some names) read_fault write_fault words old new status
    → (read_fault → ⊥) → status ≡ Ends.ReadFault → IsAbsent names words
read_fault_absent names read_fault write_fault words old new status (inl (text, reports, put)) works
    e = (
      text,
      subst (λ s. Reports (Some names) ⊥ words s text) e
          (held_reports names read_fault words status text works reports),
    )
read_fault_absent names read_fault write_fault words old new status (inr (inl (is, kept))) works e =
    let no : ⊥ = cc in absurd no
read_fault_absent names read_fault write_fault words old new status (inr (inr (is, fault, cut)))
    works e =
    let no : ⊥ = cc in absurd no

-- where a write falls short only at the end of the room, a write fault says that the report is
-- longer than it
pub write_fault_long : (names : Names) (read_fault write_fault : Type 0) (words : List (List ℕ))
    (old new : List ℕ) (status : Status) (room : ℕ) →
    RunEnds (Some names) read_fault write_fault words (Some old) (Some new) status
    → (read_fault → ⊥) → ((text : List ℕ) → write_fault → AppendsPrefix (Some old) (Some new) text →
    room < length text) → status ≡ Ends.WriteFault → IsTooLong names words old new room
write_fault_long names read_fault write_fault words old new status room
    (inl (text, (answer, answered, (is, said)), put)) works full e =
    absurd (never_cut answer (sym is ∙ e))
write_fault_long names read_fault write_fault words old new status room (inr (inl (is, kept))) works
    full e =
    let no : ⊥ = cc in absurd no
write_fault_long names read_fault write_fault words old new status room
    (inr (inr (is, fault, (meant, text, reports, put)))) works full e = (
      meant,
      text,
      held_reports names read_fault words meant text works reports,
      full text fault put,
      put,
    )
