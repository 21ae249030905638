-- Where a check answers that the functions are equal, they agree.
use Rattle.std.proofs.Common.{◌≡◌, ◌∙◌, ℕ, Bool, true, false, List, length, nat_lt, Option, Some, None, refl, sym, ap, inl, inr}
use Rattle.std.specs.Prelude.{MatchBool}
use Rattle.c_front.specs.declared.refusals.Refusal.{Refusal}
use Rattle.c_front.specs.declared.refusals.Refusal.TheVariants as Why
use Rattle.c_front.specs.declared.stages.Next.TheVariants.{Ends}
use Rattle.rx_command.specs.Commands.{Functions}
use Rattle.rx_log.specs.Acceptance as acceptance
use Rattle.rx_log.specs.Acceptance.{HasVerdict, IsAccepted}
use Rattle.rx_log.specs.declared.log.Log.{Log}
use Rattle.rx_cli.specs.declared.problems.Problem.{Problem}
use Rattle.rx_report.specs.declared.ends.Status.TheVariants as Ends
use Rattle.rx_report.specs.declared.verdicts.Verdict.{Verdict}
use Rattle.rx_report.specs.declared.verdicts.Verdict.TheVariants as Said
use Rattle.rx_check.specs.declared.check_end.CheckEnd.{CheckEnd}
use Rattle.rx_check.specs.declared.check_end.CheckEnd.TheVariants as End
use Rattle.rx_cli.specs.Agreement.{Agrees}
use Rattle.rx_cli.specs.Checks.{IsChecked, OnLog, OnRead, OnText, longest_log}
use Rattle.rx_report.specs.Ends.{check_status, status_of}
use Rattle.rx_cli.specs.Problems.{asked}
use Rattle.rx_report.specs.Verdicts.{end_of, verdict_of}
use Rattle.rx_cli.proofs.Sound.{problem_agrees}

-- each refusal has the status of refusals
pub status_refused : (refusal : Refusal) → status_of (verdict_of refusal) ≡ Ends.Refused
status_refused (Why.Lex fault) = refl
status_refused (Why.Parse end) = refl
status_refused (Why.Scope end) = refl
status_refused (Why.WideLiteral token) = refl
status_refused (Why.NoFunction name) = refl
status_refused (Why.Arity m n) = refl
status_refused (Why.PreLex fault) = refl
status_refused (Why.PreParse end) = refl
status_refused (Why.PreName token) = refl

-- an end of a replay isn't a says
no_yes : (end : CheckEnd) → check_status end ≡ Ends.Equivalent → ⊥
no_yes (End.BadDomain symbol) e = cc
no_yes (End.NotKept part) e = cc
no_yes (End.Step step end) e = cc
no_yes (End.Unfinished goals) e = cc
no_yes (End.NotCovered symbol) e = cc
no_yes (End.BadRanks symbol) e = cc
no_yes (End.NotLower pair) e = cc
no_yes (End.Large place) e = cc
no_yes End.NoMemory e = cc

-- the status of a verdict that is known
module _ (verdict : Verdict) (says : status_of verdict ≡ Ends.Equivalent) where
  status_is : (other : Verdict) → verdict ≡ other → status_of other ≡ Ends.Equivalent
  status_is other is = sym (ap status_of is) ∙ says

  -- the replay accepts
  pub log_accepted : (problem : Problem) (log : Log) → OnLog problem log verdict →
      IsAccepted problem.rules problem.goal log
  log_accepted problem log (acceptance.Accepted, has, is) = has
  log_accepted problem log (acceptance.Fails fault, has, is) =
      absurd (no_yes (end_of fault) (status_is (Said.Check (end_of fault)) is))

  text_accepted : (problem : Problem) (bytes : List ℕ) → OnText problem bytes verdict →
      (log : Log) × IsAccepted problem.rules problem.goal log
  text_accepted problem bytes (inl (number, bad, is)) =
      let no : Ends.Refused ≡ Ends.Equivalent = status_is (Said.Line number) is in
      absurd (let none : ⊥ = cc in none)
  text_accepted problem bytes (inr (log, read, on)) = (log, log_accepted problem log on)

  by_length : (problem : Problem) (bytes : List ℕ) (long : Bool) →
      MatchBool long (verdict ≡ Said.LongLog) (OnText problem bytes verdict) → (log : Log) ×
      IsAccepted problem.rules problem.goal log
  by_length problem bytes true is =
      let no : Ends.Refused ≡ Ends.Equivalent = status_is Said.LongLog is in
      absurd (let none : ⊥ = cc in none)
  by_length problem bytes false on = text_accepted problem bytes on

  pub read_accepted : (problem : Problem) (log : Option (List ℕ)) → OnRead problem log verdict →
      (log : Log) × IsAccepted problem.rules problem.goal log
  read_accepted problem None is =
      let no : Ends.ReadFault ≡ Ends.Equivalent = status_is Said.ReadFault is in
      absurd (let none : ⊥ = cc in none)
  read_accepted problem (Some bytes) on =
      by_length problem bytes (nat_lt longest_log (length bytes)) on

  -- no text alone is a says
  pub never_asked : (f : Functions) (source : List ℕ) → asked f source (Ends verdict) → ⊥
  never_asked f source (inl (refusal, refused, is)) =
      let no : Ends.Refused ≡ Ends.Equivalent = sym (status_refused refusal) ∙
      status_is (verdict_of refusal) is in cc
  never_asked f source (inr (compared, front, inl (beyond, is))) =
      let no : Ends.Large ≡ Ends.Equivalent = status_is Said.LargeTranslate is in cc
  never_asked f source (inr (compared, front, inr (translated, beyond, is))) =
      let no : Ends.Large ≡ Ends.Equivalent = status_is Said.LargePre is in cc

  pub checked_agrees : (f : Functions) (source : List ℕ) (log : Option (List ℕ)) →
      IsChecked f source log verdict → Agrees source f
  checked_agrees f source log (inl ended) = absurd (never_asked f source ended)
  checked_agrees f source log (inr (problem, (compared, front, is), on)) =
      let (read, accepted) = read_accepted problem log on in
      problem_agrees f source compared problem front is read accepted
