-- Each way through the reading of a rule text has its answer, and so has each through the reading of
-- functions whose rules are written.
use Rattle.std.proofs.Common.{◌≡◌, ◌≤◌, ◌∙◌, ℕ, List, Option, None, Some, inl, inr, refl, ap, subst, length}
use Rattle.std.proofs.lemmas.Bool.{le-ltb}
use Rattle.c_front.specs.declared.stages.Next.TheVariants.{Ends, Goes}
use Rattle.rx_command.specs.Commands.{Find, Functions, Induction, Replay, Rules, Translate}
use Rattle.rx_command.specs.declared.command.Effort.{Effort}
use Rattle.rx_io.specs.Outside.{Names, HoldsBytes, Rose}
use Rattle.rx_report.specs.declared.answer.Answer.{Answer}
use Rattle.rx_report.specs.declared.answer.Answer.TheVariants.{Line}
use Rattle.rx_report.specs.declared.verdicts.Verdict.{Verdict}
use Rattle.rx_report.specs.declared.verdicts.Verdict.TheVariants as Said
use Rattle.rx_cli.specs.declared.problems.Problem.{Problem}
use Rattle.rx_cli.specs.Answers.{AnswersOrFails, IsHeld, IsInductionDone, IsInductionLogHeld, OnInduction, OnSource, file_in}
use Rattle.rx_cli.specs.Inductions.{IsReplayed, IsSought, HasInductiveTheorem, of_induction}
use Rattle.rx_cli.specs.Problems.{longest_source, posed}
use Rattle.rx_cli.specs.Steps.{Reads, ReplaysNamed, SaidOfNamed}
use Rattle.rx_cli.specs.Translations.{HasRuleText, IsWritten}
use Rattle.rx_cli.proofs.AnswerLemmas.{given_any, given_under, rose_later, source_unread}
use Rattle.rx_cli.proofs.Induced.{replayed_shows, sought_shows, written_has}

-- ---- logs

module _ (held : Option Names) (fault : Type 0) (source name : List ℕ) (verdict : Verdict) where
  -- a text that poses no problem
  pub replays_ended : posed source (Ends verdict) → ReplaysNamed held fault source name verdict
  replays_ended ended = let any = given_any held name in inl (any.0, any.1, inl ended)

  -- one that poses a problem
  pub replays_posed : (problem : Problem) → posed source (Goes problem) → (said : Verdict) →
      verdict ≡ of_induction said → SaidOfNamed held fault name problem said →
      ReplaysNamed held fault source name verdict
  replays_posed problem found said is (inl (given, is_held, on)) =
      inl (given, is_held, inr (problem, found, (said, on, is)))
  replays_posed problem found said is (inr (failed, said_is)) =
      inr (failed, is ∙ ap of_induction said_is)

pub replays_later : (held told : Option Names) (a b c : ℕ) (source name : List ℕ)
    (verdict : Verdict) → told ≡ held → a ≤ b → ReplaysNamed told (Rose b c) source name verdict →
    ReplaysNamed held (Rose a c) source name verdict
replays_later held told a b c source name verdict same below (inl (given, is_held, replayed)) =
    inl (given, subst (λ h. IsHeld h name given) same is_held, replayed)
replays_later held told a b c source name verdict same below (inr (rose, is)) =
    inr (rose_later a b c below rose, is)

-- ---- texts that can't be had

replay_any : (held : Option Names) (task : Induction) → (given : Option (List ℕ)) ×
    IsInductionLogHeld held task given
replay_any held (Find file effort) = (None, tt)
replay_any held (Replay file log) = given_any held log

pub rules_unread : (held : Option Names) (fault : Type 0) (task : Induction) (verdict : Verdict) →
    Reads held fault (file_in task) longest_source Said.LongSource (Ends verdict) →
    AnswersOrFails held fault (Some (Rules task)) (Line verdict)
rules_unread held fault task verdict =
    let log = replay_any held task in
    source_unread held fault (Rules task) (file_in task) log.0 (λ text said. IsInductionDone task text log.0 said) verdict
    (λ source is. (is, log.1)) (λ source on. on)

pub functions_unread : (held : Option Names) (fault : Type 0) (f : Functions)
    (verdict : Verdict) →
    Reads held fault f.file longest_source Said.LongSource (Ends verdict) →
    AnswersOrFails held fault (Some (Translate f)) (Line verdict)
functions_unread held fault f verdict =
    source_unread held fault (Translate f) f.file None (IsWritten f) verdict (λ source is. is)
    (λ source on. on)

-- ---- texts that were read

module _ (held : Option Names) (fault : Type 0) (file source lent : List ℕ)
    (holds : HoldsBytes held file source) (fits : length source ≤ longest_source)
    (same : lent ≡ source) where
  pub answers_sought : (effort : Effort) (answer : Answer) → IsSought effort lent answer →
      AnswersOrFails held fault (Some (Rules (Find file effort))) answer
  answers_sought effort answer is =
      let said : OnInduction (Find file effort) (Some source) None answer =
      rw (le-ltb longest_source (length source) fits)
      (subst (λ text. IsSought effort text answer) same is) in
      inl (record {
        given = record { source = Some source; log = None };
        is_given = (given_under held file source holds, tt);
        is = said;
        right = λ says. (source, refl, subst HasInductiveTheorem same (sought_shows effort lent answer says is));
      })

  pub answers_replayed : (name : List ℕ) (verdict : Verdict) →
      ReplaysNamed held fault lent name verdict →
      AnswersOrFails held fault (Some (Rules (Replay file name))) (Line verdict)
  answers_replayed name verdict (inl (given, is_held, replayed)) =
      let said : OnInduction (Replay file name) (Some source) given (Line verdict) =
      rw (le-ltb longest_source (length source) fits)
      (verdict, subst (λ text. IsReplayed text given verdict) same replayed, refl) in
      inl (record {
        given = record { source = Some source; log = given };
        is_given = (given_under held file source holds, is_held);
        is = said;
        right =
            λ says. (
              source,
              refl,
              subst HasInductiveTheorem same (replayed_shows verdict says lent given replayed),
            );
      })
  answers_replayed name verdict (inr (failed, is)) = inr (refl, failed, ap Line is)

module _ (held : Option Names) (fault : Type 0) (f : Functions) (source lent : List ℕ)
    (holds : HoldsBytes held f.file source) (fits : length source ≤ longest_source)
    (same : lent ≡ source) where
  pub answers_written : (answer : Answer) → IsWritten f lent answer →
      AnswersOrFails held fault (Some (Translate f)) answer
  answers_written answer is =
      let said : OnSource (IsWritten f) (Some source) answer =
      rw (le-ltb longest_source (length source) fits)
      (subst (λ text. IsWritten f text answer) same is) in
      inl (record {
        given = record { source = Some source; log = None };
        is_given = given_under held f.file source holds;
        is = said;
        right =
            λ says. (
              source,
              refl,
              subst (λ text. HasRuleText text f) same (written_has f lent answer says is),
            );
      })
