-- What the statuses of equivalence and of a difference say of the words.
use Rattle.std.proofs.Common.{◌≡◌, ◌∙◌, List, ℕ, Bool, true, false, Option, Some, None, inl, inr, refl, sym, ap, subst, length, nat_lt}
use Rattle.std.specs.Prelude.{◌==◌, if◌then◌else◌, MatchBool}
use Rattle.rx_check.specs.declared.check_end.CheckEnd.{CheckEnd}
use Rattle.rx_check.specs.declared.check_end.CheckEnd.TheVariants as check_end
use Rattle.rx_io.specs.Outside.{Names}
use Rattle.rx_command.specs.Commands.{Check, Command, Compare, Demo, Find, Functions, Induction, Prove, Refute, Replay, Rules, Translate, command_of}
use Rattle.rx_command.specs.declared.command.Effort.{Effort}
use Rattle.rx_command.specs.declared.command.Extent.{Extent}
use Rattle.rx_report.specs.declared.answer.Answer.{Answer}
use Rattle.rx_report.specs.declared.ends.Status.TheVariants as Ends
use Rattle.rx_report.specs.declared.answer.Answer.TheVariants.{Line, Proof}
use Rattle.rx_report.specs.declared.verdicts.Verdict.{Verdict}
use Rattle.rx_report.specs.declared.verdicts.Verdict.TheVariants as Said
use Rattle.rx_cli.specs.Problems.{longest_source}
use Rattle.rx_cli.specs.Answers.{AreEqual, Input, AnswersSoundly, AnswersOrFails, IsDone, IsInput, IsHeld, IsInductionDone, IsRefutedBy, Means, OnComparison, OnSource, file_in, functions_in}
use Rattle.rx_search.specs.Search.{Searched, NoRanks, LargeRanks, Closed, Large, Spent, NoPlan}
use Rattle.rx_cli.specs.Examples.{IsShown}
use Rattle.rx_cli.specs.Inductions.{IsSought}
use Rattle.rx_cli.specs.Proofs.{IsProved, OnProblem, OnSearched}
use Rattle.rx_cli.specs.Searches.{sought}
use Rattle.rx_cli.specs.declared.problems.Problem.{Problem}
use Rattle.rx_report.specs.Ends.{check_status, status_in, status_of}
use Rattle.rx_cli.specs.Refutations.{IsRefuted, Refutes}
use Rattle.rx_cli.specs.Translations.{IsWritten, OnWriting}
use Rattle.rx_find_cover.specs.Coverable.{coverage}
use Rattle.rx_cli.proofs.Comparisons.{different_refutes}

module _ (held : Option Names) (words : List (List ℕ)) where
  by_command : (o : Option Command) → command_of words ≡ o → (given : Input) →
      IsInput held o given → Means o given → AreEqual held words
  by_command None is given is_given means = absurd means
  by_command (Some (Demo pairs)) is given is_given agree = (Demo pairs, is, agree)
  by_command (Some (Compare comparison)) is given is_given (source, there, agrees) = (
    Compare comparison,
    is,
    (
      source,
      subst (IsHeld held (functions_in comparison).file) there
          is_given.0,
      agrees,
    ),
  )
  by_command (Some (Rules task)) is given is_given (source, there, shows) = (
    Rules task,
    is,
    (source, subst (IsHeld held (file_in task)) there is_given.0, shows),
  )
  by_command (Some (Translate f)) is given is_given (source, there, has) =
      (Translate f, is, (source, subst (IsHeld held f.file) there is_given, has))

  -- where the status is that of equivalence, what the words ask about holds
  pub answered_equal : (fault : Type 0) (answer : Answer) →
      AnswersOrFails held fault (command_of words) answer → status_in answer ≡ Ends.Equivalent →
      AreEqual held words
  answered_equal fault answer (inl to) says =
      by_command (command_of words) refl to.given to.is_given (to.right says)
  answered_equal fault answer (inr (some, failed, is)) says =
      let no : Ends.ReadFault ≡ Ends.Equivalent = sym (ap status_in is) ∙ says in
      absurd (let none : ⊥ = cc in none)

if_never_differs : (b : Bool) → (if b then Ends.Equivalent else Ends.Unknown) ≡ Ends.Different → ⊥
if_never_differs true e = cc
if_never_differs false e = cc

check_never_differs : (end : CheckEnd) → check_status end ≡ Ends.Different → ⊥
check_never_differs (check_end.BadDomain sym) e = cc
check_never_differs (check_end.NotKept part) e = cc
check_never_differs (check_end.Step step end) e = cc
check_never_differs (check_end.Unfinished goals) e = cc
check_never_differs (check_end.NotCovered sym) e = cc
check_never_differs (check_end.BadRanks sym) e = cc
check_never_differs (check_end.NotLower pair) e = cc
check_never_differs (check_end.Large place) e = cc
check_never_differs check_end.NoMemory e = cc

-- no verdict has the status of a difference
lines_never_differ : (verdict : Verdict) → status_of verdict ≡ Ends.Different → ⊥
lines_never_differ Said.Equivalent e = cc
lines_never_differ Said.NoRanks e = cc
lines_never_differ (Said.Depth depth) e = cc
lines_never_differ (Said.Visits visits) e = cc
lines_never_differ (Said.Demo pairs equivalent) e = if_never_differs (pairs == equivalent) e
lines_never_differ Said.LongSource e = cc
lines_never_differ Said.LongLog e = cc
lines_never_differ (Said.Lex fault) e = cc
lines_never_differ (Said.Parse end) e = cc
lines_never_differ (Said.Scope end) e = cc
lines_never_differ (Said.WideLiteral token) e = cc
lines_never_differ (Said.NoFunction name) e = cc
lines_never_differ (Said.Arity first second) e = cc
lines_never_differ (Said.PreLex fault) e = cc
lines_never_differ (Said.PreParse end) e = cc
lines_never_differ (Said.PreName token) e = cc
lines_never_differ (Said.Box count) e = cc
lines_never_differ (Said.Line number) e = cc
lines_never_differ (Said.Check end) e = check_never_differs end e
lines_never_differ (Said.RuleLine number) e = cc
lines_never_differ (Said.NotMade rule) e = cc
lines_never_differ Said.NoCover e = cc
lines_never_differ Said.Inductive e = cc
lines_never_differ Said.Usage e = cc
lines_never_differ Said.ReadFault e = cc
lines_never_differ Said.LargeTranslate e = cc
lines_never_differ Said.LargePre e = cc
lines_never_differ Said.LargeSearch e = cc
lines_never_differ Said.LargeRules e = cc

module _ (held : Option Names) (words : List (List ℕ)) where
  by_length : (f : Functions) (extent : Extent) (source : List ℕ) (answer : Answer) (long : Bool)
      → MatchBool long (answer ≡ Line Said.LongSource) (IsRefuted f extent source answer) →
      status_in answer ≡ Ends.Different → Refutes source f
  by_length f extent source answer true is says =
      let no : Ends.Refused ≡ Ends.Different = sym (ap status_in is) ∙ says in
      absurd (let none : ⊥ = cc in none)
  by_length f extent source answer false refuted says =
      different_refutes f extent source answer refuted says

  by_source : (f : Functions) (extent : Extent) (answer : Answer) (given log : Option (List ℕ)) →
      IsHeld held f.file given → OnComparison (Refute f extent) given log answer
      → status_in answer ≡ Ends.Different → (source : List ℕ) × IsHeld held f.file (Some source) ×
      Refutes source f
  by_source f extent answer None log there is says =
      let no : Ends.ReadFault ≡ Ends.Different = sym (ap status_in is) ∙ says in
      absurd (let none : ⊥ = cc in none)
  by_source f extent answer (Some source) log there on says = (
    source,
    there,
    by_length f extent source answer (nat_lt longest_source (length source)) on
        says,
  )

  -- no line has the status of a difference
  module _ (answer : Answer) (says : status_in answer ≡ Ends.Different) where
    no_line : (verdict : Verdict) → answer ≡ Line verdict → ⊥
    no_line verdict is = lines_never_differ verdict (sym (ap status_in is) ∙ says)

    no_proof : (text : List ℕ) → answer ≡ Proof text → ⊥
    no_proof text is =
        let no : Ends.Equivalent ≡ Ends.Different = sym (ap status_in is) ∙ says in cc

    not_searched : (problem : Problem) (effort : Effort) (s : Searched) →
        OnSearched problem effort s answer → ⊥
    not_searched problem effort NoRanks is = no_line Said.NoRanks is
    not_searched problem effort (LargeRanks rows) is = no_line Said.LargeSearch is
    not_searched problem effort (Closed moves) (text, proof, is) = no_proof text is
    not_searched problem effort (Large path rows) is = no_line Said.LargeSearch is
    not_searched problem effort Spent is = no_line (Said.Visits effort.budget) is
    not_searched problem effort NoPlan is = no_line (Said.Depth effort.depth) is

    not_proved : (f : Functions) (effort : Effort) (source : List ℕ) →
        IsProved f effort source answer → ⊥
    not_proved f effort source (inl (verdict, asks, is)) = no_line verdict is
    not_proved f effort source (inr (problem, asks, on)) =
        not_searched problem effort
        (sought problem.rules problem.goal effort.depth effort.budget) on

    not_proved_long : (f : Functions) (effort : Effort) (source : List ℕ) (long : Bool) →
        MatchBool long (answer ≡ Line Said.LongSource) (IsProved f effort source answer) → ⊥
    not_proved_long f effort source true is = no_line Said.LongSource is
    not_proved_long f effort source false proved = not_proved f effort source proved

    not_proved_on : (f : Functions) (effort : Effort) (given log : Option (List ℕ)) →
        OnComparison (Prove f effort) given log answer → ⊥
    not_proved_on f effort None log is = no_line Said.ReadFault is
    not_proved_on f effort (Some source) log on =
        not_proved_long f effort source (nat_lt longest_source (length source)) on

    not_checked_long : (f : Functions) (name source : List ℕ) (log : Option (List ℕ))
        (long : Bool) → MatchBool long (answer ≡ Line Said.LongSource)
        (IsDone (Check f name) source log answer) → ⊥
    not_checked_long f name source log true is = no_line Said.LongSource is
    not_checked_long f name source log false (verdict, checked, is) = no_line verdict is

    not_checked_on : (f : Functions) (name : List ℕ) (given log : Option (List ℕ)) →
        OnComparison (Check f name) given log answer → ⊥
    not_checked_on f name None log is = no_line Said.ReadFault is
    not_checked_on f name (Some source) log on =
        not_checked_long f name source log (nat_lt longest_source (length source)) on

    -- nor has a proof of the equation of a rule text, nor a rule text
    not_covered : (problem : Problem) (effort : Effort) (covered noted : Bool) →
        MatchBool covered (OnProblem problem effort answer)
        (MatchBool noted (answer ≡ Line Said.LargeSearch) (answer ≡ Line Said.NoCover)) → ⊥
    not_covered problem effort true noted on =
        not_searched problem effort
        (sought problem.rules problem.goal effort.depth effort.budget) on
    not_covered problem effort false true is = no_line Said.LargeSearch is
    not_covered problem effort false false is = no_line Said.NoCover is

    not_sought : (effort : Effort) (source : List ℕ) → IsSought effort source answer → ⊥
    not_sought effort source (inl (verdict, ended, is)) = no_line verdict is
    not_sought effort source (inr (problem, found, on)) =
        not_covered problem effort (coverage problem.rules).covered
        (coverage problem.rules).noted on

    not_induced : (task : Induction) (log : Option (List ℕ)) (source : List ℕ) →
        IsInductionDone task source log answer → ⊥
    not_induced (Find file effort) log source is = not_sought effort source is
    not_induced (Replay file name) log source (verdict, replayed, is) = no_line verdict is

    not_on_writing : (problem : Problem) → OnWriting problem answer → ⊥
    not_on_writing problem (inl (text, is, answer_is)) =
        let no : Ends.Equivalent ≡ Ends.Different = sym (ap status_in answer_is) ∙ says in cc
    not_on_writing problem (inr (none, is)) = no_line Said.LargeRules is

    not_written : (f : Functions) (source : List ℕ) → IsWritten f source answer → ⊥
    not_written f source (inl (verdict, ended, is)) = no_line verdict is
    not_written f source (inr (problem, found, on)) =
        not_on_writing problem on

    not_long : (done : List ℕ → Answer → Type 0) (source : List ℕ) (long : Bool) →
        (done source answer → ⊥) →
        MatchBool long (answer ≡ Line Said.LongSource) (done source answer) → ⊥
    not_long done source true never is = no_line Said.LongSource is
    not_long done source false never is = never is

    not_on_source : (done : List ℕ → Answer → Type 0) →
        ((source : List ℕ) → done source answer → ⊥) → (given : Option (List ℕ)) →
        OnSource done given answer → ⊥
    not_on_source done never None is = no_line Said.ReadFault is
    not_on_source done never (Some source) on =
        not_long done source (nat_lt longest_source (length source)) (never source) on

    not_shown : (pairs : ℕ) → (verdict : Verdict) × IsShown pairs verdict ×
        (answer ≡ Line verdict) → ⊥
    not_shown pairs (verdict, shown, is) = no_line verdict is

    by_asked : (o : Option Command) → command_of words ≡ o → AnswersSoundly held o answer →
        IsRefutedBy held words
    by_asked None is to = absurd (no_line Said.Usage to.is)
    by_asked (Some (Demo pairs)) is to = absurd (not_shown pairs to.is)
    by_asked (Some (Rules task)) is to =
        absurd (not_on_source (λ text said. IsInductionDone task text to.given.log said)
        (not_induced task to.given.log) to.given.source to.is)
    by_asked (Some (Translate f)) is to =
        absurd (not_on_source (IsWritten f) (not_written f) to.given.source to.is)
    by_asked (Some (Compare (Prove f effort))) is to =
        absurd (not_proved_on f effort to.given.source to.given.log to.is)
    by_asked (Some (Compare (Check f name))) is to =
        absurd (not_checked_on f name to.given.source to.given.log to.is)
    by_asked (Some (Compare (Refute f extent))) is to = (
      f,
      extent,
      is,
      by_source f extent answer to.given.source to.given.log to.is_given.0 to.is says,
    )

  -- where the status is that of a difference, a counterexample is asked for, and there is one
  pub answered_different : (fault : Type 0) (answer : Answer) →
      AnswersOrFails held fault (command_of words) answer → status_in answer ≡ Ends.Different →
      IsRefutedBy held words
  answered_different fault answer (inl to) says = by_asked answer says (command_of words) refl to
  answered_different fault answer (inr (some, failed, is)) says =
      let no : Ends.ReadFault ≡ Ends.Different = sym (ap status_in is) ∙ says in
      absurd (let none : ⊥ = cc in none)
