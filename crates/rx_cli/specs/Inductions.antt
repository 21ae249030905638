-- What is said of a rule text and of the log of a proof of its equation, and what a yes means: the
-- equation is an inductive theorem of the rules.
use Rattle.std.specs.Prelude.{◌≡◌, ◌⊎◌, ℕ, ℤ, List, Option, None, MatchBool}
use Rattle.c_front.specs.declared.stages.Next.TheVariants.{Ends, Goes}
use Rattle.rx_command.specs.declared.command.Effort.{Effort}
use Rattle.rx_find_cover.specs.Coverable.{coverage}
use Rattle.rx_find_cover.specs.Coverage.{Coverage}
use Rattle.rx_proofs.specs.Goals.{Fitting}
use Rattle.rx_report.specs.declared.answer.Answer.{Answer}
use Rattle.rx_report.specs.declared.answer.Answer.TheVariants.{Line}
use Rattle.rx_report.specs.declared.verdicts.Verdict.{Verdict}
use Rattle.rx_report.specs.declared.verdicts.Verdict.TheVariants as Said
use Rattle.rx_rewriting.specs.Premises.{EndsInside}
use Rattle.rx_rewriting.specs.Steps.{Convertible}
use Rattle.rx_row.specs.Holds.{AllHold}
use Rattle.rx_rulefile.specs.RuleTexts.{IsRuleText, first_unmade}
use Rattle.rx_term.specs.Meaning.{Instance, ground_at}
use Rattle.rx_term.specs.declared.rule.Equation.{Equation}
use Rattle.rx_term.specs.declared.rule_set.RuleParts.{RuleParts}
use Rattle.rx_cli.specs.declared.problems.Problem.{Problem}
use Rattle.rx_cli.specs.Checks.{OnRead}
use Rattle.rx_cli.specs.Problems.{posed}
use Rattle.rx_cli.specs.Proofs.{OnProblem}

-- ---- what is shown

-- at this assignment both sides reach results by the rules alone, and one side is converted to the
-- other by the rules alone
pub record HoldsAt (parts : RuleParts) (goal : Equation) (a : ℕ → ℤ) : Type 0 where
  pub left : EndsInside (Fitting parts) (Instance parts.rules) (ground_at a goal.left)
  pub right : EndsInside (Fitting parts) (Instance parts.rules) (ground_at a goal.right)
  pub convertible :
      Convertible (Instance parts.rules) (ground_at a goal.left) (ground_at a goal.right)

-- the text is that of well made rules and an equation that fits, and the equation holds at each
-- assignment that meets its rows
pub record HasInductiveTheorem (source : List ℕ) : Type 0 where
  pub parts : RuleParts
  pub goal : Equation
  pub is : IsRuleText source parts goal
  pub made : first_unmade parts goal ≡ None
  pub theorem : (a : ℕ → ℤ) → AllHold a goal.rows → HoldsAt parts goal a

-- ---- what is answered

-- the answer of a search, by what looking for trees that cover the rules comes to
abbrev pub OnCoverage : Coverage → Problem → Effort → Answer → Type 0
OnCoverage cover problem effort answer =
    MatchBool cover.covered (OnProblem problem effort answer)
    (MatchBool cover.noted (answer ≡ Line Said.LargeSearch) (answer ≡ Line Said.NoCover))

-- what is said of a rule text where a proof of its equation is searched for
abbrev pub IsSought : Effort → List ℕ → Answer → Type 0
IsSought effort source answer =
    ((verdict : Verdict) × posed source (Ends verdict) × (answer ≡ Line verdict))
    ⊎ ((problem : Problem) × posed source (Goes problem) ×
    OnCoverage (coverage problem.rules) problem effort answer)

-- what is said of a rule text whose log has this verdict
abbrev pub of_induction : Verdict → Verdict
of_induction Said.Equivalent = Said.Inductive
of_induction verdict = verdict

-- what is said of a rule text and of what was read in the place of the log
abbrev pub IsReplayed : List ℕ → Option (List ℕ) → Verdict → Type 0
IsReplayed source log verdict =
    posed source (Ends verdict)
    ⊎ ((problem : Problem) × posed source (Goes problem) ×
    ((said : Verdict) × OnRead problem log said × (verdict ≡ of_induction said)))
