-- Where it is said of a rule text that its equation is proved, the equation is an inductive theorem
-- of the rules. Where the rules of two functions are written, they have a text.
use Rattle.std.proofs.Common.{Err, ◌≡◌, ◌∙◌, ◌<◌, ◌≤◌, ℕ, ℤ, Bool, true, false, List, Option, inl, inr, refl, sym, ap, subst, length, nat_lt, arith, []}
use Rattle.std.proofs.lemmas.Bool.{ltb-false, ltb-true}
use Rattle.std.specs.Prelude.{MatchBool}
use Rattle.c_front.specs.declared.stages.Next.TheVariants.{Ends, Goes}
use Rattle.rx_check.proofs.Proofs.{accepted_ends_alike}
use Rattle.rx_command.specs.Commands.{Functions}
use Rattle.rx_command.specs.declared.command.Effort.{Effort}
use Rattle.rx_find_cover.specs.Coverable.{coverage}
use Rattle.rx_log.specs.Acceptance.{IsAccepted}
use Rattle.rx_log.specs.declared.log.Log.{Log}
use Rattle.rx_moves.specs.Moves.{Move}
use Rattle.rx_proofs.specs.Goals.{Fitting, IsFitting}
use Rattle.rx_report.specs.Ends.{status_in, status_of}
use Rattle.rx_report.specs.Reports.{text_in}
use Rattle.rx_report.specs.declared.answer.Answer.{Answer}
use Rattle.rx_report.specs.declared.answer.Answer.TheVariants.{Line, RuleText}
use Rattle.rx_report.specs.declared.ends.Status.TheVariants as Ends
use Rattle.rx_report.specs.declared.verdicts.Verdict.{Verdict}
use Rattle.rx_report.specs.declared.verdicts.Verdict.TheVariants as Said
use Rattle.rx_rewriting.proofs.Chains.{Convertible-sym, Convertible-trans, Reaches-convertible}
use Rattle.rx_rewriting.specs.Premises.{HaveConvertibleNormalForms}
use Rattle.rx_rulefile.proofs.MadeRules.{made}
use Rattle.rx_rulefile.specs.Reading.{ReadsRules}
use Rattle.rx_rulefile.specs.RuleTexts.{IsRuleText}
use Rattle.rx_rulefile.specs.declared.rule_end.RuleEnd.TheVariants.{NotMade}
use Rattle.rx_term.specs.WellMade.{IsWellMade}
use Rattle.rx_term.specs.Meaning.{Instance, ground_at}
use Rattle.rx_term.specs.declared.rule.Equation.{Equation}
use Rattle.rx_term.specs.declared.rule_set.RuleParts.{RuleParts}
use Rattle.rx_cli.specs.declared.problems.Problem.{Problem}
use Rattle.rx_cli.specs.Inductions.{HoldsAt, IsReplayed, IsSought, HasInductiveTheorem, of_induction}
use Rattle.rx_cli.specs.Problems.{asked, longest_source, posed}
use Rattle.rx_cli.specs.Proofs.{IsProofText, OnProblem}
use Rattle.rx_cli.specs.Searches.{sought}
use Rattle.rx_cli.specs.Steps.{WritesText, is_writable}
use Rattle.rx_cli.specs.Translations.{HasRuleText, IsWritten, OnWriting}
use Rattle.rx_cli.proofs.Checked.{never_asked, read_accepted}
use Rattle.rx_cli.proofs.Unmade.{text_poses}
use Rattle.rx_cli.proofs.Proved.{searched_proof, status_is}

-- ---- what an accepted log shows

-- each side is converted to its result, and the results to one another
holds_at : (parts : RuleParts) (goal : Equation) (a : ℕ → ℤ) →
    HaveConvertibleNormalForms (Fitting parts) (Instance parts.rules) (ground_at a goal.left)
    (ground_at a goal.right) → HoldsAt parts goal a
holds_at parts goal a ends = record {
  left = ends.left;
  right = ends.right;
  convertible =
      Convertible-trans (Reaches-convertible ends.left.reached)
      (Convertible-trans ends.convertible
      (Convertible-sym (Reaches-convertible ends.right.reached)));
}

-- the equation of a rule text fits its symbols
pub posed_fits : (source : List ℕ) (problem : Problem) → posed source (Goes problem) →
    IsFitting problem.rules problem.goal
posed_fits source problem (is, none) =
    let (well, fits) = made problem.rules problem.goal none in
    record { left = fits.0; right = fits.1 }

-- and its symbols have no domains
pub posed_bare : (source : List ℕ) (problem : Problem) → posed source (Goes problem) →
    problem.rules.domains ≡ []
posed_bare source problem (is, none) = is.no_domains

-- a rule that isn't well made is named by its number
pub unmade_posed : (source : List ℕ) (rule : ℕ) → ReadsRules source (Err (NotMade rule)) →
    posed source (Ends (Said.NotMade rule))
unmade_posed source rule (parts, (goal, (is, unmade))) =
    inr (parts, goal, rule, is, unmade, refl)

pub log_shows : (source : List ℕ) (problem : Problem) → posed source (Goes problem) → (log : Log) →
    IsAccepted problem.rules problem.goal log → HasInductiveTheorem source
log_shows source problem (is, none) log accepted = record {
  parts = problem.rules;
  goal = problem.goal;
  is = is;
  made = none;
  theorem =
      λ a holds. holds_at problem.rules problem.goal a
      (accepted_ends_alike problem.rules problem.goal log
      (made problem.rules problem.goal none).0 is.no_domains
      (posed_fits source problem (is, none)) accepted a holds);
}

-- ---- yes

-- no text that poses no problem is answered by a yes
pub never_posed : (verdict : Verdict) → status_of verdict ≡ Ends.Equivalent →
    (source : List ℕ) → posed source (Ends verdict) → ⊥
never_posed verdict says source (inl (number, bad, is)) =
    let no : Ends.Refused ≡ Ends.Equivalent = sym (ap status_of is) ∙ says in cc
never_posed verdict says source (inr (parts, goal, rule, text, unmade, is)) =
    let no : Ends.Refused ≡ Ends.Equivalent = sym (ap status_of is) ∙ says in cc

module _ (effort : Effort) (source : List ℕ) (answer : Answer)
    (says : status_in answer ≡ Ends.Equivalent) where
  by_cover : (problem : Problem) (covered noted : Bool) →
      MatchBool covered (OnProblem problem effort answer)
      (MatchBool noted (answer ≡ Line Said.LargeSearch) (answer ≡ Line Said.NoCover)) →
      (moves : List Move) × IsProofText problem moves (text_in answer)
  by_cover problem true noted on =
      searched_proof answer says problem effort
      (sought problem.rules problem.goal effort.depth effort.budget) on
  by_cover problem false true is =
      let no : Ends.Large ≡ Ends.Equivalent = status_is answer says Said.LargeSearch is in
      absurd (let none : ⊥ = cc in none)
  by_cover problem false false is =
      let no : Ends.Unknown ≡ Ends.Equivalent = status_is answer says Said.NoCover is in
      absurd (let none : ⊥ = cc in none)

  -- the text of the log of a proof is the answer
  pub sought_text : IsSought effort source answer →
      (problem : Problem) × posed source (Goes problem) ×
      ((moves : List Move) × IsProofText problem moves (text_in answer))
  sought_text (inl (verdict, ended, is)) =
      absurd (never_posed verdict (status_is answer says verdict is) source ended)
  sought_text (inr (problem, found, on)) = (
    problem,
    found,
    by_cover problem (coverage problem.rules).covered (coverage problem.rules).noted on,
  )

  pub sought_shows : IsSought effort source answer → HasInductiveTheorem source
  sought_shows is =
      let (problem, found, (moves, proof)) = sought_text is in
      log_shows source problem found proof.log proof.accepted

-- what is said of a rule text has the status of what is said of the log
induction_status : (verdict : Verdict) → status_of (of_induction verdict) ≡ status_of verdict
induction_status Said.Equivalent = refl
induction_status verdict = refl

pub replayed_shows : (verdict : Verdict) → status_of verdict ≡ Ends.Equivalent →
    (source : List ℕ) (log : Option (List ℕ)) → IsReplayed source log verdict → HasInductiveTheorem source
replayed_shows verdict says source log (inl ended) =
    absurd (never_posed verdict says source ended)
replayed_shows verdict says source log (inr (problem, found, (said, on, is))) =
    let also : status_of said ≡ Ends.Equivalent =
    sym (induction_status said) ∙ (sym (ap status_of is) ∙ says) in
    let (read, accepted) = read_accepted said also problem log on in
    log_shows source problem found read accepted

-- ---- texts of rules

-- the rules of two functions have no domains
pub asked_bare : (f : Functions) (source : List ℕ) (problem : Problem) →
    asked f source (Goes problem) → problem.rules.domains ≡ []
asked_bare f source problem (compared, front, is) =
    ap (λ (parts : RuleParts). parts.domains) is.translated.parts_are

-- what is written is the text of the problem; where it is too long, or the problem has none, no text
-- of it is short
module _ (problem : Problem) (answer : Answer) (well : IsWellMade problem.rules)
    (fits : IsFitting problem.rules problem.goal) where
  by_length : (text : List ℕ) → IsRuleText text problem.rules problem.goal → (long : Bool) →
      nat_lt longest_source (length text) ≡ long →
      MatchBool long (answer ≡ Line Said.LargeRules) (answer ≡ RuleText text) →
      OnWriting problem answer
  by_length text is true long said =
      let more : longest_source < length text = ltb-true longest_source (length text) long in
      inr (
        λ other has. let same : other ≡ text = has.poses.0.is ∙ sym is.is in
            let fewer : length text ≤ longest_source =
            subst (λ (t : List ℕ). length t ≤ longest_source) same has.short in
            omega (arith, more, fewer),
        said,
      )
  by_length text is false short said =
      let fewer : length text ≤ longest_source = ltb-false longest_source (length text) short in
      inl (text, record { poses = text_poses problem text well fits is; short = fewer }, said)

  by_writable : (writable : Bool) → is_writable problem ≡ writable →
      MatchBool writable ((text : List ℕ) × IsRuleText text problem.rules problem.goal
      × MatchBool (nat_lt longest_source (length text)) (answer ≡ Line Said.LargeRules)
      (answer ≡ RuleText text)) (answer ≡ Line Said.LargeRules) → OnWriting problem answer
  by_writable true can (text, is, said) =
      by_length text is (nat_lt longest_source (length text)) refl said
  by_writable false cannot said =
      inr (
        λ other has. let no : true ≡ false = sym has.poses.0.in_range ∙ cannot in
            let none : ⊥ = cc in none,
        said,
      )

  pub text_written : WritesText problem answer → OnWriting problem answer
  text_written on = by_writable (is_writable problem) refl on

module _ (f : Functions) (source : List ℕ) (answer : Answer)
    (says : status_in answer ≡ Ends.Equivalent) where
  by_text : (problem : Problem) → asked f source (Goes problem) → OnWriting problem answer →
      HasRuleText source f
  by_text problem found (inl (text, is, answer_is)) =
      record { problem = problem; asks = found; text = text; is = is }
  by_text problem found (inr (none, is)) =
      let no : Ends.Large ≡ Ends.Equivalent = status_is answer says Said.LargeRules is in
      absurd (let none : ⊥ = cc in none)

  pub written_has : IsWritten f source answer → HasRuleText source f
  written_has (inl (verdict, ended, is)) =
      absurd (never_asked verdict (status_is answer says verdict is) f source ended)
  written_has (inr (problem, found, on)) = by_text problem found on
