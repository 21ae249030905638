-- A log has one verdict, and answers that give one give that.
use Rattle.std.proofs.Common.{◌≡◌, refl, sym, subst, ◌∙◌, Option, Some, None, Result, Ok, Err}
use Rattle.std.proofs.lemmas.Option.{same_Some}
use Rattle.std.specs.Option.{option_map}
use Rattle.rx_term.specs.declared.rule.Equation.{Equation}
use Rattle.rx_term.specs.declared.rule_set.RuleParts.{RuleParts}
use Rattle.rx_log.specs.Acceptance.{Accepted, Fails, HasVerdict, LogFault, Verdict, verdict_on}
use Rattle.rx_log.specs.declared.log.Log.{Log}
use Rattle.rx_check.specs.Answers.{Answers, Told, named, verdict_known}
use Rattle.rx_check.specs.declared.check_end.CheckEnd.{CheckEnd}

pub one_verdict : (parts : RuleParts) (goal : Equation) (log : Log) →
    (verdict : Verdict) × HasVerdict parts goal log verdict
    × ((other : Verdict) → HasVerdict parts goal log other → other ≡ verdict)
one_verdict parts goal log = (verdict_on parts goal log, refl, λ other is. sym is)

module _ (parts : RuleParts) (goal : Equation) (log : Log) where
  -- the verdict that an answer gives is one of the log
  told : (r : Result (Unit {0}) CheckEnd) (verdict : Verdict) → Answers r parts goal log →
      verdict_known r ≡ Some verdict
      → HasVerdict parts goal log verdict
  told (Ok done) verdict answers is =
      subst (HasVerdict parts goal log) (same_Some Accepted verdict is) answers
  told (Err end) verdict answers is = by_fault (named end) answers is where
    by_fault : (o : Option LogFault) → Told o (λ fault. HasVerdict parts goal log (Fails fault)) →
        option_map Fails o ≡ Some verdict
        → HasVerdict parts goal log verdict
    by_fault None has is = absurd cc
    by_fault (Some fault) has is =
        subst (HasVerdict parts goal log) (same_Some (Fails fault) verdict is) has

  pub one_known : (one two : Result (Unit {0}) CheckEnd) → Answers one parts goal log →
      Answers two parts goal log
      → (first second : Verdict) → verdict_known one ≡ Some first → verdict_known two ≡ Some second →
      first ≡ second
  one_known one two has too first second is also =
      sym (told one first has is) ∙ told two second too also
