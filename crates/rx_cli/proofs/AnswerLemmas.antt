-- Each way through the reading has its answer.
use Rattle.std.proofs.Common.{◌≡◌, ◌<◌, ◌≤◌, ◌∙◌, ℕ, List, [], Option, None, Some, inl, inr, refl, sym, ap, subst, length, arith, le_trans}
use Rattle.std.proofs.lemmas.Bool.{lt-ltb, le-ltb}
use Rattle.std.specs.Prelude.{◌+◌, ◌-◌, ◌^◌}
use Rattle.std.proofs.Math.Nat.{le-min, min-le_left, min-le_right}
use Rattle.c_front.specs.declared.stages.Next.TheVariants.{Ends, Goes}
use Rattle.rx_cli.specs.declared.problems.Problem.{Problem}
use Rattle.rx_cli.specs.Checks.{OnRead, OnText, longest_log}
use Rattle.rx_cli.specs.Problems.{asked, longest_source}
use Rattle.rx_command.specs.Commands.{Check, Command, Compare, Comparison, Demo, Functions, Prove, Refute}
use Rattle.rx_command.specs.declared.command.Effort.{Effort}
use Rattle.rx_io.specs.Outside.{Names, HoldsBytes, IsMissing, Rose}
use Rattle.rx_report.specs.declared.answer.Answer.{Answer}
use Rattle.rx_report.specs.declared.answer.Answer.TheVariants.{Line}
use Rattle.rx_report.specs.declared.ends.Status.TheVariants as Ends
use Rattle.rx_report.specs.declared.verdicts.Verdict.{Verdict}
use Rattle.rx_report.specs.declared.verdicts.Verdict.TheVariants as Said
use Rattle.rx_cli.specs.Agreement.{Agrees}
use Rattle.rx_cli.specs.Answers.{Answers, AnswersSoundly, AnswersOrFails, Input, IsDone, IsHeld, IsInput, IsLogHeld, OnComparison, OnSource, functions_in}
use Rattle.rx_report.specs.Ends.{status_of}
use Rattle.rx_cli.specs.Proofs.{IsProved}
use Rattle.rx_cli.specs.Steps.{ChecksNamed, Reads, SaidOfNamed}
use Rattle.rx_cli.specs.Examples.{IsShown}
use Rattle.rx_cli.specs.Refutations.{IsRefuted}
use Rattle.rx_command.specs.declared.command.Extent.{Extent}
use Rattle.rx_cli.proofs.Checked.{checked_agrees}
use Rattle.rx_cli.proofs.Comparisons.{never_equivalent}
use Rattle.rx_cli.proofs.ExampleLaws.{shown_agree}
use Rattle.rx_cli.proofs.Proved.{proved_agrees}

-- bytes that are under a name were given under it
pub given_under : (held : Option Names) (name bytes : List ℕ) → HoldsBytes held name bytes →
    IsHeld held name (Some bytes)
given_under None name bytes holds = (bytes, refl)
given_under (Some names) name bytes holds = sym holds

-- something was given under each name
pub given_any : (held : Option Names) (name : List ℕ) → (given : Option (List ℕ)) ×
    IsHeld held name given
given_any None name = (Some [], ([], refl))
given_any (Some names) name = (names name, refl)

log_any : (held : Option Names) (command : Comparison) → (given : Option (List ℕ)) ×
    IsLogHeld held command given
log_any held (Prove f effort) = (None, tt)
log_any held (Check f log) = given_any held log
log_any held (Refute f extent) = (None, tt)

-- ---- a log

module _ (held : Option Names) (fault : Type 0) (name : List ℕ) (problem : Problem)
    (verdict : Verdict) where
  unheld : (h : Option Names) → held ≡ h → IsMissing h name → verdict ≡ Said.ReadFault →
      SaidOfNamed held fault name problem verdict
  unheld None told missing is = absurd missing
  unheld (Some names) told missing is =
      inl (None, subst (λ h. IsHeld h name None) (sym told) (sym missing), is)

  -- a log that can't be had
  pub said_unread : Reads held fault name longest_log Said.LongLog (Ends verdict) →
      SaidOfNamed held fault name problem verdict
  said_unread (inl ((bytes, holds, more), is)) =
      let on : OnRead problem (Some bytes) verdict =
      rw (lt-ltb longest_log (length bytes) more) is in
      inl (Some bytes, given_under held name bytes holds, on)
  said_unread (inr (inl failed, is)) = inr (failed, is)
  said_unread (inr (inr missing, is)) = unheld held refl missing is

  -- a log that was read
  pub said_read : (bytes : List ℕ) → HoldsBytes held name bytes → length bytes ≤ longest_log →
      OnText problem bytes verdict → SaidOfNamed held fault name problem verdict
  said_read bytes holds fits on =
      let read : OnRead problem (Some bytes) verdict =
      rw (le-ltb longest_log (length bytes) fits) on in
      inl (Some bytes, given_under held name bytes holds, read)

module _ (held : Option Names) (fault : Type 0) (f : Functions) (source name : List ℕ)
    (verdict : Verdict) where
  -- a text that poses no problem
  pub checks_asked : asked f source (Ends verdict) → ChecksNamed held fault f source name verdict
  checks_asked ended = let any = given_any held name in inl (any.0, any.1, inl ended)

  -- one that poses a problem
  pub checks_posed : (problem : Problem) → asked f source (Goes problem) →
      SaidOfNamed held fault name problem verdict → ChecksNamed held fault f source name verdict
  checks_posed problem found (inl (given, is_held, on)) =
      inl (given, is_held, inr (problem, found, on))
  checks_posed problem found (inr failed) = inr failed

-- a fault that rose later has risen
pub rose_later : (a b c : ℕ) → a ≤ b → Rose b c → Rose a c
rose_later a b c below rose =
    le_trans (le-min (le_trans (min-le_left (a + 1) (2 ^ 64 - 1)) (omega (arith, below)))
    (min-le_right (a + 1) (2 ^ 64 - 1))) rose

pub checks_later : (held told : Option Names) (a b c : ℕ) (f : Functions) (source name : List ℕ)
    (verdict : Verdict) → told ≡ held → a ≤ b → ChecksNamed told (Rose b c) f source name verdict
    → ChecksNamed held (Rose a c) f source name verdict
checks_later held told a b c f source name verdict same below (inl (given, is_held, checked)) =
    inl (given, subst (λ h. IsHeld h name given) same is_held, checked)
checks_later held told a b c f source name verdict same below (inr (rose, is)) =
    inr (rose_later a b c below rose, is)

-- words that ask for nothing are answered with the usage
pub answers_usage : (held : Option Names) (fault : Type 0) (asked_for : Option Command) → None ≡
    asked_for → AnswersOrFails held fault asked_for (Line Said.Usage)
answers_usage held fault asked_for is =
    subst (λ o. AnswersOrFails held fault o (Line Said.Usage)) is (inl (record {
      given = record { source = None; log = None };
      is_given = tt;
      is = refl;
      right = λ says. let no : ⊥ = cc in absurd no;
    }))

-- ---- a source

-- a source that can't be had, where what is done with one that is read is as said
module _ (held : Option Names) (fault : Type 0) (command : Command) (name : List ℕ)
    (log : Option (List ℕ)) (done : List ℕ → Answer → Type 0) (verdict : Verdict) where
  abbrev with_source : Option (List ℕ) → Input
  with_source source = record { source = source; log = log }

  module _ (input : (source : Option (List ℕ)) → IsHeld held name source →
      IsInput held (Some command) (with_source source))
      (answers : (source : Option (List ℕ)) → OnSource done source (Line verdict) →
      Answers (Some command) (with_source source) (Line verdict)) where
    long_answer : (bytes : List ℕ) → HoldsBytes held name bytes → longest_source < length bytes →
        verdict ≡ Said.LongSource → AnswersOrFails held fault (Some command) (Line verdict)
    long_answer bytes holds more is =
        let said : OnSource done (Some bytes) (Line verdict) =
        rw (lt-ltb longest_source (length bytes) more) (ap Line is) in
        inl (record {
          given = with_source (Some bytes);
          is_given = input (Some bytes) (given_under held name bytes holds);
          is = answers (Some bytes) said;
          right =
              λ says. let no : Ends.Refused ≡ Ends.Equivalent = sym (ap status_of is) ∙ says in
              absurd (let none : ⊥ = cc in none);
        })

    missing_answer : (names : Names) → held ≡ Some names → names name ≡ None → verdict ≡
        Said.ReadFault → AnswersOrFails held fault (Some command) (Line verdict)
    missing_answer names told missing is =
        inl (record {
          given = with_source None;
          is_given = input None (subst (λ h. IsHeld h name None) (sym told) (sym missing));
          is = answers None (ap Line is);
          right =
              λ says. let no : Ends.ReadFault ≡ Ends.Equivalent = sym (ap status_of is) ∙ says in
              absurd (let none : ⊥ = cc in none);
        })

    by_held : (h : Option Names) → held ≡ h → IsMissing h name → verdict ≡ Said.ReadFault →
        AnswersOrFails held fault (Some command) (Line verdict)
    by_held None told missing is = absurd missing
    by_held (Some names) told missing is = missing_answer names told missing is

    pub source_unread : Reads held fault name longest_source Said.LongSource (Ends verdict) →
        AnswersOrFails held fault (Some command) (Line verdict)
    source_unread (inl ((bytes, holds, more), is)) = long_answer bytes holds more is
    source_unread (inr (inl failed, is)) = inr (refl, failed, ap Line is)
    source_unread (inr (inr missing, is)) = by_held held refl missing is

-- that of a comparison
pub answers_unread : (held : Option Names) (fault : Type 0) (command : Comparison)
    (verdict : Verdict) →
    Reads held fault (functions_in command).file longest_source Said.LongSource (Ends verdict) →
    AnswersOrFails held fault (Some (Compare command)) (Line verdict)
answers_unread held fault command verdict =
    let log = log_any held command in
    source_unread held fault (Compare command) (functions_in command).file log.0
    (λ text said. IsDone command text log.0 said) verdict (λ source is. (is, log.1))
    (λ source on. on)

-- a source that was read
module _ (held : Option Names) (fault : Type 0) (f : Functions) (source lent : List ℕ)
    (holds : HoldsBytes held f.file source) (fits : length source ≤ longest_source)
    (same : lent ≡ source) where
  pub answers_checked : (name : List ℕ) (verdict : Verdict) →
      ChecksNamed held fault f lent name verdict →
      AnswersOrFails held fault (Some (Compare (Check f name))) (Line verdict)
  answers_checked name verdict (inl (given, is_held, checked)) =
      let said : OnComparison (Check f name) (Some source) given (Line verdict) =
      rw (le-ltb longest_source (length source) fits) (verdict, rw (← same) checked, refl) in
      inl (record {
        given = record { source = Some source; log = given };
        is_given = (given_under held f.file source holds, is_held);
        is = said;
        right =
            λ says. (
              source,
              refl,
              subst (λ text. Agrees text f) same
                  (checked_agrees verdict says f lent given checked),
            );
      })
  answers_checked name verdict (inr (failed, is)) = inr (refl, failed, ap Line is)

  pub answers_proved : (effort : Effort) (answer : Answer) → IsProved f effort lent answer →
      AnswersOrFails held fault (Some (Compare (Prove f effort))) answer
  answers_proved effort answer proved =
      let said : OnComparison (Prove f effort) (Some source) None answer =
      rw (le-ltb longest_source (length source) fits)
      (subst (λ text. IsProved f effort text answer) same proved) in
      inl (record {
        given = record { source = Some source; log = None };
        is_given = (given_under held f.file source holds, tt);
        is = said;
        right =
            λ says. (
              source,
              refl,
              subst (λ text. Agrees text f) same
                  (proved_agrees f lent answer says effort proved),
            );
      })

  pub answers_refuted : (extent : Extent) (answer : Answer) → IsRefuted f extent lent answer →
      AnswersOrFails held fault (Some (Compare (Refute f extent))) answer
  answers_refuted extent answer refuted =
      let said : OnComparison (Refute f extent) (Some source) None answer =
      rw (le-ltb longest_source (length source) fits)
      (subst (λ text. IsRefuted f extent text answer) same refuted) in
      inl (record {
        given = record { source = Some source; log = None };
        is_given = (given_under held f.file source holds, tt);
        is = said;
        right = λ says. absurd (never_equivalent f extent lent answer refuted says);
      })

-- examples that were shown
pub answers_shown : (held : Option Names) (pairs : ℕ) (verdict : Verdict) → IsShown pairs verdict →
    AnswersSoundly held (Some (Demo pairs)) (Line verdict)
answers_shown held pairs verdict shown = record {
  given = record { source = None; log = None };
  is_given = tt;
  is = (verdict, shown, refl);
  right = λ says. shown_agree pairs verdict shown says;
}
