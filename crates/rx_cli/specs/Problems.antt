-- The front end and the translation as stages: from a text to the problem that two of its functions
-- pose, which is their rules and the goal that their entries are equal. And the reading of a rule
-- text as a stage: the problem that it poses is its rules and its equation.
use Rattle.std.specs.Prelude.{◌≡◌, ◌⊎◌, true, false, ℕ, List, [], Option, Some, None}
use Rattle.c_ast.specs.declared.expr.Expr.{Expr}
use Rattle.c_ast.specs.declared.integers.Integers.{Integers}
use Rattle.c_front.specs.declared.pairs.Compared.{Compared}
use Rattle.c_front.specs.declared.refusals.Refusal.{Refusal}
use Rattle.c_front.specs.declared.stages.Next.{Next}
use Rattle.c_front.specs.declared.stages.Next.TheVariants.{Ends, Goes}
use Rattle.c_front.specs.Conditions.{whole_front}
use Rattle.c_front.specs.Front.{count_in}
use Rattle.c_front.specs.Stages.{before}
use Rattle.rx_command.specs.Commands.{Functions}
use Rattle.rx_plain.specs.Formed.{Formed, pure}
use Rattle.rx_lines.specs.Orders.{IsFirstBad}
use Rattle.rx_row.specs.declared.row.Row.{Row}
use Rattle.rx_rulefile.specs.Places.{rule_order}
use Rattle.rx_rulefile.specs.RuleTexts.{IsRuleText, first_unmade}
use Rattle.rx_term.specs.declared.rule.Equation.{Equation}
use Rattle.rx_term.specs.declared.rule_set.RuleParts.{RuleParts}
use Rattle.rx_term.specs.declared.term.Sym.{Sym}
use Rattle.rx_code.specs.Bounds.{rows_in}
use Rattle.rx_code.specs.Preconditions.{pre_rows}
use Rattle.rx_code.specs.Translation.{IsBeyond, IsTranslation, goal_at}
use Rattle.rx_cli.specs.declared.problems.Problem.{Problem}
use Rattle.rx_report.specs.declared.verdicts.Verdict.{Verdict}
use Rattle.rx_report.specs.declared.verdicts.Verdict.TheVariants as Said
use Rattle.rx_report.specs.Verdicts.{verdict_of}

-- the most bytes of a source
abbrev pub longest_source : ℕ
longest_source = 1048576

-- the front end, whose refusals are verdicts
abbrev pub front_stage : Functions → List ℕ → Next Verdict Compared → Type 0
front_stage f source (Ends verdict) =
    (refusal : Refusal) × whole_front f.integers source f.first f.second f.precondition
    (Ends refusal)
    × (verdict ≡ verdict_of refusal)
front_stage f source (Goes compared) =
    whole_front f.integers source f.first f.second f.precondition (Goes compared)

-- the rows of a precondition, none where there is none, and whether all that is formed for them
-- keeps the limits
abbrev pub rows_of : Option Expr → Formed (List Row)
rows_of None = pure []
rows_of (Some pre) = pre_rows pre

module _ (integers : Integers) where
  -- the two functions have a translation
  pub record IsTranslated (compared : Compared) : Type 0 where
    pub rules : RuleParts
    pub first : Sym
    pub second : Sym
    pub is :
        IsTranslation integers compared.two.program compared.two.first compared.two.second rules
        first second

  -- the rules are the translation of both functions, and the goal says that their entries are equal
  -- on as many variables as they have parameters, under the rows of the precondition and, of 32-bit
  -- integers, those that each variable is one
  pub record IsProblem (compared : Compared) (problem : Problem) : Type 0 where
    pub first : Sym
    pub second : Sym
    pub translated :
        IsTranslation integers compared.two.program compared.two.first compared.two.second
        problem.rules first second
    pub within : (rows_of compared.precondition).within ≡ true
    pub goal :
        problem.goal
        ≡ goal_at first second (count_in compared.two.program compared.two.first)
        (rows_in integers (count_in compared.two.program compared.two.first)
        (rows_of compared.precondition).form)

  -- the translation passes the limits; or else the rows of the precondition do; or else that is the
  -- problem
  abbrev pub problem_stage : Compared → Next Verdict Problem → Type 0
  problem_stage compared (Ends verdict) =
      (IsBeyond integers compared.two.program compared.two.first compared.two.second
      × (verdict ≡ Said.LargeTranslate))
      ⊎ (IsTranslated compared × ((rows_of compared.precondition).within ≡ false)
      × (verdict ≡ Said.LargePre))
  problem_stage compared (Goes problem) = IsProblem compared problem

-- the problem that two functions of a text pose, by their kind of integers, or why there is none
abbrev pub asked : Functions → List ℕ → Next Verdict Problem → Type 0
asked f = before (front_stage f) (problem_stage f.integers)

-- the problem that a rule text poses; or the first line with which no rule text begins; or the
-- first rule that isn't well made, where the number of rules stands for an equation that doesn't
-- fit
abbrev pub posed : List ℕ → Next Verdict Problem → Type 0
posed source (Ends verdict) =
    ((number : ℕ) × IsFirstBad rule_order source number × (verdict ≡ Said.RuleLine number))
    ⊎ ((parts : RuleParts) × (goal : Equation) × (rule : ℕ) × IsRuleText source parts goal
    × (first_unmade parts goal ≡ Some rule) × (verdict ≡ Said.NotMade rule))
posed source (Goes problem) =
    IsRuleText source problem.rules problem.goal
    × (first_unmade problem.rules problem.goal ≡ None)
