-- What a search reports as a proof is accepted by a check that reads it, or by a replay.
use Rattle.std.proofs.Common.{◌≡◌, ◌∙◌, ◌≤◌, ℕ, Bool, true, false, List, Option, Some, None, length, nat_lt, inl, inr, refl, sym, ap, subst}
use Rattle.std.proofs.lemmas.Bool.{le-ltb}
use Rattle.std.specs.Prelude.{MatchBool}
use Rattle.c_front.specs.declared.stages.Next.TheVariants.{Goes}
use Rattle.rx_command.specs.Commands.{Check, Compare, Find, Functions, Prove, Replay, Rules, command_of}
use Rattle.rx_command.specs.declared.command.Effort.{Effort}
use Rattle.rx_io.specs.Outside.{Names}
use Rattle.rx_log.specs.Acceptance.{Accepted, IsAccepted}
use Rattle.rx_log.specs.declared.log.Log.{Log}
use Rattle.rx_logtext.specs.Logs.{IsLog}
use Rattle.rx_report.specs.declared.answer.Answer.{Answer}
use Rattle.rx_report.specs.declared.answer.Answer.TheVariants.{Line}
use Rattle.rx_report.specs.declared.ends.Status.TheVariants as Ends
use Rattle.rx_cli.specs.declared.problems.Problem.{Problem}
use Rattle.rx_report.specs.declared.verdicts.Verdict.TheVariants as Said
use Rattle.rx_cli.specs.Answers.{AnswersSoundly, IsDone, IsInductionDone, OnComparison, OnInduction, OnSource}
use Rattle.rx_report.specs.Reports.{text_in}
use Rattle.rx_report.specs.Ends.{status_in}
use Rattle.rx_cli.specs.Checks.{IsChecked, OnRead, longest_log}
use Rattle.rx_cli.specs.Inductions.{IsReplayed, IsSought}
use Rattle.rx_cli.specs.Problems.{asked, longest_source, posed}
use Rattle.rx_cli.specs.Proofs.{IsProved}
use Rattle.rx_cli.specs.Run.{Reports}
use Rattle.rx_report.specs.Texts.{text_of}
use Rattle.rx_cli.proofs.Induced.{sought_text}
use Rattle.rx_cli.proofs.Proved.{proved_text}

-- a log that is accepted for a problem is accepted where its text is read
accepted_read : (problem : Problem) (log : Log) (text : List ℕ) →
    IsAccepted problem.rules problem.goal log → IsLog text log → length text ≤ longest_log →
    OnRead problem (Some text) Said.Equivalent
accepted_read problem log text accepted is fits =
    rw (le-ltb longest_log (length text) fits) (inr (log, is, (Accepted, accepted, refl)))

-- so by a replay for a rule text
pub log_replayed : (source : List ℕ) (problem : Problem) (log : Log) (text : List ℕ) →
    posed source (Goes problem) → IsAccepted problem.rules problem.goal log → IsLog text log →
    length text ≤ longest_log → IsReplayed source (Some text) Said.Inductive
log_replayed source problem log text found accepted is fits =
    inr (
      problem,
      found,
      (Said.Equivalent, accepted_read problem log text accepted is fits, refl),
    )

-- and by a check
pub written_accepted : (f : Functions) (source : List ℕ) (problem : Problem) (log : Log)
    (text : List ℕ) → asked f source (Goes problem) → IsAccepted problem.rules problem.goal log →
    IsLog text log
    → length text ≤ longest_log → IsChecked f source (Some text) Said.Equivalent
written_accepted f source problem log text found accepted is fits =
    inr (problem, found, accepted_read problem log text accepted is fits)

module _ (f : Functions) (effort : Effort) (name text : List ℕ) (answer : Answer)
    (says : status_in answer ≡ Ends.Equivalent) (same : text ≡ text_in answer)
    (fits : length text ≤ longest_log) where
  -- so is the text that a search is answered by
  proof_checked : (source : List ℕ) → IsProved f effort source answer →
      IsChecked f source (Some text) Said.Equivalent
  proof_checked source proved =
      let (problem, found, (moves, proof)) = proved_text f source answer says effort proved in
      written_accepted f source problem proof.log text found proof.accepted
      (subst (λ t. IsLog t proof.log) (sym same) proof.is) fits

  by_length : (source : List ℕ) (long : Bool) →
      MatchBool long (answer ≡ Line Said.LongSource) (IsProved f effort source answer)
      → MatchBool long (Line Said.Equivalent ≡ Line Said.LongSource)
      (IsDone (Check f name) source (Some text) (Line Said.Equivalent))
  by_length source true is =
      let no : Ends.Refused ≡ Ends.Equivalent = sym (ap status_in is) ∙ says in
      absurd (let none : ⊥ = cc in none)
  by_length source false proved = (Said.Equivalent, proof_checked source proved, refl)

  by_source : (given log : Option (List ℕ)) → OnComparison (Prove f effort) given log answer →
      OnComparison (Check f name) given (Some text) (Line Said.Equivalent)
  by_source None log is =
      let no : Ends.ReadFault ≡ Ends.Equivalent = sym (ap status_in is) ∙ says in
      absurd (let none : ⊥ = cc in none)
  by_source (Some source) log on = by_length source (nat_lt longest_source (length source)) on

-- a proof that is reported is accepted by a check of the same functions, where the source is the
-- same
pub proofs_accepted : (before after : Names) (f : Functions) (effort : Effort) (name text : List ℕ)
    (searching checking : List (List ℕ))
    → command_of searching ≡ Some (Compare (Prove f effort)) → command_of checking ≡
    Some (Compare (Check f name))
    → Reports (Some before) ⊥ searching Ends.Equivalent text
    → after f.file ≡ before f.file → after name ≡ Some text → length text ≤ longest_log
    → Reports (Some after) ⊥ checking Ends.Equivalent (text_of Said.Equivalent)
proofs_accepted before after f effort name text searching checking asks_proof asks_check
    (answer, inl found, (status, is_text)) file log fits =
    let search : AnswersSoundly (Some before) (Some (Compare (Prove f effort))) answer =
    subst (λ o. AnswersSoundly (Some before) o answer) asks_proof found in
    let check : AnswersSoundly (Some after) (Some (Compare (Check f name))) (Line Said.Equivalent) =
    record {
      given = record { source = search.given.source; log = Some text };
      is_given = (search.is_given.0 ∙ sym file, sym log);
      is =
          by_source f effort name text answer (sym status) is_text fits search.given.source
          search.given.log search.is;
      right = λ _. search.right (sym status);
    } in (
      Line Said.Equivalent,
      inl (subst (λ o. AnswersSoundly (Some after) o (Line Said.Equivalent))
          (sym asks_check) check),
      (refl, refl),
    )
proofs_accepted before after f effort name text searching checking asks_proof asks_check
    (answer, inr (some, fault, is), report) file log fits =
    absurd fault

-- ---- rule texts

module _ (effort : Effort) (file name text : List ℕ) (answer : Answer)
    (says : status_in answer ≡ Ends.Equivalent) (same : text ≡ text_in answer)
    (fits : length text ≤ longest_log) where
  sought_replayed : (source : List ℕ) → IsSought effort source answer →
      IsReplayed source (Some text) Said.Inductive
  sought_replayed source is =
      let (problem, found, (moves, proof)) = sought_text effort source answer says is in
      log_replayed source problem proof.log text found proof.accepted
      (subst (λ t. IsLog t proof.log) (sym same) proof.is) fits

  induced_by_length : (source : List ℕ) (long : Bool) →
      MatchBool long (answer ≡ Line Said.LongSource) (IsSought effort source answer) →
      MatchBool long (Line Said.Inductive ≡ Line Said.LongSource)
      (IsInductionDone (Replay file name) source (Some text) (Line Said.Inductive))
  induced_by_length source true is =
      let no : Ends.Refused ≡ Ends.Equivalent = sym (ap status_in is) ∙ says in
      absurd (let none : ⊥ = cc in none)
  induced_by_length source false is = (Said.Inductive, sought_replayed source is, refl)

  induced_by_source : (given : Option (List ℕ)) → OnSource (IsSought effort) given answer →
      OnInduction (Replay file name) given (Some text) (Line Said.Inductive)
  induced_by_source None is =
      let no : Ends.ReadFault ≡ Ends.Equivalent = sym (ap status_in is) ∙ says in
      absurd (let none : ⊥ = cc in none)
  induced_by_source (Some source) on =
      induced_by_length source (nat_lt longest_source (length source)) on

-- a proof that is reported for a rule text is accepted by a replay for the same text
pub inductions_accepted : (before after : Names) (file : List ℕ) (effort : Effort)
    (name text : List ℕ) (searching replaying : List (List ℕ))
    → command_of searching ≡ Some (Rules (Find file effort)) → command_of replaying ≡
    Some (Rules (Replay file name))
    → Reports (Some before) ⊥ searching Ends.Equivalent text
    → after file ≡ before file → after name ≡ Some text → length text ≤ longest_log
    → Reports (Some after) ⊥ replaying Ends.Equivalent (text_of Said.Inductive)
inductions_accepted before after file effort name text searching replaying asks_proof asks_replay
    (answer, inl found, (status, is_text)) held log fits =
    let search : AnswersSoundly (Some before) (Some (Rules (Find file effort))) answer =
    subst (λ o. AnswersSoundly (Some before) o answer) asks_proof found in
    let replay : AnswersSoundly (Some after) (Some (Rules (Replay file name))) (Line Said.Inductive)
    = record {
      given = record { source = search.given.source; log = Some text };
      is_given = (search.is_given.0 ∙ sym held, sym log);
      is =
          induced_by_source effort file name text answer (sym status) is_text fits
          search.given.source search.is;
      right = λ _. search.right (sym status);
    } in (
      Line Said.Inductive,
      inl (subst (λ o. AnswersSoundly (Some after) o (Line Said.Inductive))
          (sym asks_replay) replay),
      (refl, refl),
    )
inductions_accepted before after file effort name text searching replaying asks_proof asks_replay
    (answer, inr (some, fault, is), report) held log fits =
    absurd fault
