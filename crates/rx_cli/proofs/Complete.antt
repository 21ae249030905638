-- What can be shown is answered by a yes, unless a call finds a fault or there is no memory.
use Rattle.std.proofs.Common.{◌≡◌, ◌∙◌, ℕ, ◌≤◌, Bool, true, false, List, Option, Some, length, nat_lt, inl, inr, ap, subst}
use Rattle.std.proofs.lemmas.Bool.{le-ltb}
use Rattle.std.specs.Prelude.{MatchBool}
use Rattle.c_front.specs.declared.stages.Next.TheVariants.{Ends, Goes}
use Rattle.rx_command.specs.Commands.{Check, Command, Compare, Comparison, Find, Functions, Prove, Replay, Rules, Translate, command_of}
use Rattle.rx_command.specs.declared.command.Effort.{Effort}
use Rattle.rx_io.specs.Outside.{Names}
use Rattle.rx_search.specs.Search.{Closed, Searched}
use Rattle.rx_report.specs.declared.answer.Answer.{Answer}
use Rattle.rx_report.specs.declared.answer.Answer.TheVariants.{Line}
use Rattle.rx_report.specs.declared.ends.Status.{Status}
use Rattle.rx_report.specs.declared.ends.Status.TheVariants as Said
use Rattle.rx_cli.specs.declared.problems.Problem.{Problem}
use Rattle.rx_report.specs.declared.verdicts.Verdict.TheVariants as verdict
use Rattle.rx_cli.specs.Answers.{AnswersOrFails, AnswersSoundly, IsDone, IsInductionDone, OnComparison, OnInduction, OnSource}
use Rattle.rx_cli.specs.Checks.{IsChecked}
use Rattle.rx_cli.specs.Completeness.{CanShow, HoldsAccepted, HoldsClosed, HoldsWritable, SaysYes}
use Rattle.rx_cli.specs.Inductions.{IsReplayed, IsSought, OnCoverage}
use Rattle.rx_cli.specs.Translations.{IsTextOf, IsWritten, OnWriting}
use Rattle.rx_find_cover.specs.Coverable.{coverage, is_coverable}
use Rattle.rx_report.specs.Ends.{status_in, status_of}
use Rattle.rx_cli.specs.Problems.{asked, longest_source, posed}
use Rattle.rx_cli.specs.Proofs.{IsProved, OnProblem, OnSearched}
use Rattle.rx_cli.specs.Searches.{sought}
use Rattle.rx_cli.specs.Run.{RunEnds}
use Rattle.rx_cli.proofs.OneReport.{one_asked, one_checked, one_posed, one_replayed}
use Rattle.rx_cli.proofs.Written.{log_replayed, written_accepted}

-- what is said of a text that isn't too long
when_short : (P Q : Type 0) (long : Bool) → long ≡ false → MatchBool long P Q → Q
when_short P Q true short is = let none : ⊥ = cc in absurd none
when_short P Q false short is = is

on_short : (command : Comparison) (given log : Option (List ℕ)) (source : List ℕ) (answer : Answer)
    → given ≡ Some source → length source ≤ longest_source → OnComparison command given log answer
    → IsDone command source log answer
on_short command given log source answer is fits on =
    let here : OnComparison command (Some source) log answer =
    subst (λ (z : Option (List ℕ)). OnComparison command z log answer) is on in
    when_short (answer ≡ Line verdict.LongSource) (IsDone command source log answer)
    (nat_lt longest_source (length source)) (le-ltb longest_source (length source) fits) here

-- the same of any text
done_short : (done : List ℕ → Answer → Type 0) (given : Option (List ℕ)) (source : List ℕ)
    (answer : Answer) → given ≡ Some source → length source ≤ longest_source →
    OnSource done given answer → done source answer
done_short done given source answer is fits on =
    let here : OnSource done (Some source) answer =
    subst (λ (z : Option (List ℕ)). OnSource done z answer) is on in
    when_short (answer ≡ Line verdict.LongSource) (done source answer)
    (nat_lt longest_source (length source)) (le-ltb longest_source (length source) fits) here

when_so : (P Q : Type 0) (b : Bool) → b ≡ true → MatchBool b P Q → P
when_so P Q true is holds = holds
when_so P Q false is holds = let none : ⊥ = cc in absurd none

module _ (names : Names) (answer : Answer) where
  -- a check of an accepted log
  check_passes : (f : Functions) (name : List ℕ) → HoldsAccepted names f.file (asked f) name →
      AnswersSoundly (Some names) (Some (Compare (Check f name))) answer → status_in answer ≡
      Said.Equivalent
  check_passes f name has is =
      let source : List ℕ = has.source.source in
      let on : OnComparison (Check f name) is.given.source (Some has.bytes) answer =
      subst (λ (z : Option (List ℕ)). OnComparison (Check f name) is.given.source z answer)
      (is.is_given.1 ∙ has.held) is.is in
      let (v, checked, answer_is) = on_short (Check f name) is.given.source (Some has.bytes) source
      answer (is.is_given.0 ∙ has.source.held) has.source.short on in
      let passes : IsChecked f source (Some has.bytes) verdict.Equivalent =
      written_accepted f source has.problem has.log has.bytes has.source.poses has.accepted
      has.is has.short in
      ap status_in answer_is ∙ ap status_of (one_checked f source (Some has.bytes) v
      verdict.Equivalent checked passes)

  closed_yes : (problem : Problem) (effort : Effort) (moves : _) →
      OnSearched problem effort (Closed moves) answer → status_in answer ≡ Said.Equivalent
  closed_yes problem effort moves (text, proof, is) = ap status_in is

  proved_yes : (f : Functions) (effort : Effort) (source : List ℕ) (problem : Problem) (moves : _)
      → asked f source (Goes problem)
      → sought problem.rules problem.goal effort.depth effort.budget ≡ Closed moves →
      IsProved f effort source answer → status_in answer ≡ Said.Equivalent
  proved_yes f effort source problem moves asks closes (inl (v, ends, is)) =
      absurd (one_asked f source (Ends v) (Goes problem) ends asks)
  proved_yes f effort source problem moves asks closes (inr (other, goes, on)) =
      let same : other ≡ problem = one_asked f source (Goes other) (Goes problem) goes asks in
      let here : OnProblem problem effort answer =
      subst (λ (q : Problem). OnProblem q effort answer) same on in
      closed_yes problem effort moves (subst
      (λ (s : Searched). OnSearched problem effort s answer) closes here)

  -- a search that closes
  search_passes : (f : Functions) (effort : Effort) → HoldsClosed names f.file (asked f) effort →
      AnswersSoundly (Some names) (Some (Compare (Prove f effort))) answer → status_in answer ≡
      Said.Equivalent
  search_passes f effort has is =
      proved_yes f effort has.source.source has.problem has.moves has.source.poses has.closes
      (on_short (Prove f effort) is.given.source is.given.log has.source.source answer
      (is.is_given.0 ∙ has.source.held) has.source.short is.is)

  -- a replay of an accepted log for a rule text
  replay_passes : (file name : List ℕ) → HoldsAccepted names file posed name →
      AnswersSoundly (Some names) (Some (Rules (Replay file name))) answer → status_in answer ≡
      Said.Equivalent
  replay_passes file name has is =
      let source : List ℕ = has.source.source in
      let on : OnInduction (Replay file name) is.given.source (Some has.bytes) answer =
      subst (λ (z : Option (List ℕ)). OnInduction (Replay file name) is.given.source z answer)
      (is.is_given.1 ∙ has.held) is.is in
      let (v, replayed, answer_is) = done_short
      (λ text said. IsInductionDone (Replay file name) text (Some has.bytes) said)
      is.given.source source answer
      (is.is_given.0 ∙ has.source.held) has.source.short on in
      let passes : IsReplayed source (Some has.bytes) verdict.Inductive =
      log_replayed source has.problem has.log has.bytes has.source.poses has.accepted has.is
      has.short in
      ap status_in answer_is ∙ ap status_of (one_replayed source (Some has.bytes) v
      verdict.Inductive replayed passes)

  sought_yes : (effort : Effort) (source : List ℕ) (problem : Problem) (moves : _)
      → posed source (Goes problem) → is_coverable problem.rules ≡ true
      → sought problem.rules problem.goal effort.depth effort.budget ≡ Closed moves →
      IsSought effort source answer → status_in answer ≡ Said.Equivalent
  sought_yes effort source problem moves poses covers closes (inl (v, ends, is)) =
      absurd (one_posed source (Ends v) (Goes problem) ends poses)
  sought_yes effort source problem moves poses covers closes (inr (other, goes, on)) =
      let same : other ≡ problem = one_posed source (Goes other) (Goes problem) goes poses in
      let here : OnCoverage (coverage problem.rules) problem effort answer =
      subst (λ (q : Problem). OnCoverage (coverage q.rules) q effort answer) same on in
      let covered : OnProblem problem effort answer = when_so (OnProblem problem effort answer)
      (MatchBool (coverage problem.rules).noted (answer ≡ Line verdict.LargeSearch)
      (answer ≡ Line verdict.NoCover)) (coverage problem.rules).covered covers here in
      closed_yes problem effort moves (subst
      (λ (s : Searched). OnSearched problem effort s answer) closes covered)

  -- a search for a proof of the equation of a rule text
  find_passes : (file : List ℕ) (effort : Effort) (has : HoldsClosed names file posed effort) →
      is_coverable has.problem.rules ≡ true →
      AnswersSoundly (Some names) (Some (Rules (Find file effort))) answer → status_in answer ≡
      Said.Equivalent
  find_passes file effort has covers is =
      sought_yes effort has.source.source has.problem has.moves has.source.poses covers has.closes
      (done_short (IsSought effort) is.given.source has.source.source answer
      (is.is_given.0 ∙ has.source.held) has.source.short is.is)

  writing_yes : (problem : Problem) (text : List ℕ) → IsTextOf problem text →
      OnWriting problem answer → status_in answer ≡ Said.Equivalent
  writing_yes problem text is (inl (other, too, answer_is)) = ap status_in answer_is
  writing_yes problem text is (inr (none, answer_is)) = absurd (none text is)

  written_yes : (f : Functions) (source : List ℕ) (problem : Problem) (text : List ℕ) →
      asked f source (Goes problem) → IsTextOf problem text → IsWritten f source answer →
      status_in answer ≡ Said.Equivalent
  written_yes f source problem text asks is (inl (v, ends, answer_is)) =
      absurd (one_asked f source (Ends v) (Goes problem) ends asks)
  written_yes f source problem text asks is (inr (other, goes, on)) =
      let same : other ≡ problem = one_asked f source (Goes other) (Goes problem) goes asks in
      writing_yes problem text is (subst (λ (q : Problem). OnWriting q answer) same on)

  -- rules that have a text
  translate_passes : (f : Functions) → HoldsWritable names f →
      AnswersSoundly (Some names) (Some (Translate f)) answer → status_in answer ≡
      Said.Equivalent
  translate_passes f has is =
      written_yes f has.source.source has.problem has.text has.source.poses has.is
      (done_short (IsWritten f) is.given.source has.source.source answer
      (is.is_given ∙ has.source.held) has.source.short is.is)

  answered_yes : (words : List (List ℕ)) → CanShow names words →
      AnswersSoundly (Some names) (command_of words) answer → status_in answer ≡ Said.Equivalent
  answered_yes words (inl (inl (f, name, asks, has))) is =
      check_passes f name has (subst (λ (o : Option Command). AnswersSoundly (Some names) o answer)
      asks
      is)
  answered_yes words (inl (inr (file, name, asks, has))) is =
      replay_passes file name has
      (subst (λ (o : Option Command). AnswersSoundly (Some names) o answer) asks is)
  answered_yes words (inr (inl (inl (f, effort, asks, has)))) is =
      search_passes f effort has (subst (λ (o : Option Command).
      AnswersSoundly (Some names) o answer)
      asks is)
  answered_yes words (inr (inl (inr (file, effort, asks, (has, covers))))) is =
      find_passes file effort has covers
      (subst (λ (o : Option Command). AnswersSoundly (Some names) o answer) asks is)
  answered_yes words (inr (inr (f, asks, has))) is =
      translate_passes f has
      (subst (λ (o : Option Command). AnswersSoundly (Some names) o answer) asks is)

-- the status of the answer says so
pub answered_complete : (names : Names) (read_fault write_fault : Type 0) (words : List (List ℕ))
    (answer : Answer) (status : Status) → CanShow names words
    → AnswersOrFails (Some names) read_fault (command_of words) answer → status ≡ status_in answer →
    SaysYes read_fault write_fault status
answered_complete names read_fault write_fault words answer status can (inl is) status_is =
    inl (status_is ∙ answered_yes names answer words can is)
answered_complete names read_fault write_fault words answer status can (inr (some, fault, line))
    status_is =
    inr (inr (inl (status_is ∙ ap status_in line, fault)))

-- a run ends with a yes, or out of memory, or because a call found a fault
pub run_complete : (names : Names) (read_fault write_fault : Type 0) (words : List (List ℕ))
    (old new : Option (List ℕ)) (status : Status) → CanShow names words
    → RunEnds (Some names) read_fault write_fault words old new status →
    SaysYes read_fault write_fault status
run_complete names read_fault write_fault words old new status can
    (inl (text, (answer, inl is, (status_is, text_is)), puts)) =
    inl (status_is ∙ answered_yes names answer words can is)
run_complete names read_fault write_fault words old new status can
    (inl (text, (answer, inr (some, fault, line), (status_is, text_is)), puts)) =
    inr (inr (inl (status_is ∙ ap status_in line, fault)))
run_complete names read_fault write_fault words old new status can (inr (inl (out, keeps))) =
    inr (inl out)
run_complete names read_fault write_fault words old new status can (inr (inr (cut, fault, rest))) =
    inr (inr (inr (cut, fault)))

-- over memory whose lists are empty, only a report that is longer than the room is in the way
pub memory_complete : (names : Names) (read_fault write_fault too_long : Type 0)
    (words : List (List ℕ)) (old new : Option (List ℕ)) (status : Status)
    → RunEnds (Some names) read_fault write_fault words old new status → (read_fault → ⊥) →
    (status ≡ Said.WriteFault → too_long) → CanShow names words → SaysYes ⊥ too_long status
memory_complete names read_fault write_fault too_long words old new status ends steady long can =
    by_end (run_complete names read_fault write_fault words old new status can ends)
  where
    by_end : SaysYes read_fault write_fault status → SaysYes ⊥ too_long status
    by_end (inl is) = inl is
    by_end (inr (inl out)) = inr (inl out)
    by_end (inr (inr (inl (is, fault)))) = absurd (steady fault)
    by_end (inr (inr (inr (is, fault)))) = inr (inr (inr (is, long is)))
