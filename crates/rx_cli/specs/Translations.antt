-- What is said of a text where the rules of two of its functions are to be written.
use Rattle.std.specs.Prelude.{◌≡◌, ◌⊎◌, ◌≤◌, List, ℕ, length}
use Rattle.c_front.specs.declared.stages.Next.TheVariants.{Ends, Goes}
use Rattle.rx_command.specs.Commands.{Functions}
use Rattle.rx_report.specs.declared.answer.Answer.{Answer}
use Rattle.rx_report.specs.declared.answer.Answer.TheVariants.{Line, RuleText}
use Rattle.rx_report.specs.declared.verdicts.Verdict.{Verdict}
use Rattle.rx_report.specs.declared.verdicts.Verdict.TheVariants as Said
use Rattle.rx_cli.specs.declared.problems.Problem.{Problem}
use Rattle.rx_cli.specs.Problems.{asked, longest_source, posed}

-- the text is a rule text that poses the problem, and not too long to be read again
pub record IsTextOf (problem : Problem) (text : List ℕ) : Type 0 where
  pub poses : posed text (Goes problem)
  pub short : length text ≤ longest_source

-- the answer to a problem: a text of it, or that there is none
abbrev pub OnWriting : Problem → Answer → Type 0
OnWriting problem answer =
    ((text : List ℕ) × IsTextOf problem text × (answer ≡ RuleText text))
    ⊎ (((text : List ℕ) → ¬ (IsTextOf problem text)) × (answer ≡ Line Said.LargeRules))

-- what is said of a text and two functions of it where their rules are to be written
abbrev pub IsWritten : Functions → List ℕ → Answer → Type 0
IsWritten f source answer =
    ((verdict : Verdict) × asked f source (Ends verdict) × (answer ≡ Line verdict))
    ⊎ ((problem : Problem) × asked f source (Goes problem) × OnWriting problem answer)

-- the two functions of the text pose a problem, and there is a rule text that poses the same
pub record HasRuleText (source : List ℕ) (f : Functions) : Type 0 where
  pub problem : Problem
  pub asks : asked f source (Goes problem)
  pub text : List ℕ
  pub is : IsTextOf problem text
