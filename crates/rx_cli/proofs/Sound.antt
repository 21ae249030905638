-- An accepted log shows that both functions return alike.
use Rattle.std.proofs.Common.{◌≡◌, ◌≢◌, ◌∙◌, ℕ, ℤ, pos, List, length, Option, Some, None, sym, ap, subst, arith}
use Rattle.c_ast.specs.declared.expr.Expr.{Expr}
use Rattle.c_ast.specs.declared.integers.Integers.{Integers}
use Rattle.c_ast.specs.declared.program.Resolved.{Resolved}
use Rattle.c_meaning.specs.Outcomes.{Value}
use Rattle.c_front.specs.declared.pairs.Compared.{Compared}
use Rattle.c_front.specs.declared.stages.Next.TheVariants.{Goes}
use Rattle.c_front.specs.Front.{count_in}
use Rattle.rx_rewriting.specs.Premises.{HaveConvertibleNormalForms}
use Rattle.rx_row.specs.Holds.{AllHold}
use Rattle.rx_term.specs.Assigned.{assigned}
use Rattle.rx_term.specs.Meaning.{Instance, ground_at}
use Rattle.rx_term.specs.declared.rule.Equation.{Equation}
use Rattle.rx_term.specs.declared.rule_set.RuleParts.{RuleParts}
use Rattle.rx_rewriting.specs.Terms.{Ground}
use Rattle.rx_code.specs.Bounds.{rows_in}
use Rattle.rx_code.specs.Translation.{goal_at}
use Rattle.rx_code.proofs.CodeLawsTranslations.{left_fits, right_fits, translation_made}
use Rattle.rx_agreement.specs.Agreement.{AreInts, ReachConvertible}
use Rattle.rx_agreement.proofs.Bounds.{bounds_hold}
use Rattle.rx_agreement.proofs.Preconditions.{means_its_rows}
use Rattle.rx_agreement.proofs.Translated.{goal_alike}
use Rattle.rx_proofs.specs.Goals.{Fitting, IsFitting}
use Rattle.rx_log.specs.declared.log.Log.{Log}
use Rattle.rx_log.specs.Acceptance.{IsAccepted}
use Rattle.rx_check.proofs.Proofs.{accepted_ends_alike}
use Rattle.rx_command.specs.Commands.{Functions}
use Rattle.rx_cli.specs.declared.problems.Problem.{Problem}
use Rattle.rx_cli.specs.Agreement.{Agrees, AreAlike, Meets}
use Rattle.rx_cli.specs.Problems.{IsProblem, front_stage, rows_of}
use Rattle.rx_cli.specs.Steps.{FormsSome, HasRowForm, IsReady, Translates}
use Rattle.rx_translate.specs.declared.translation.Translation.{Translation}
use Rattle.rx_row.specs.declared.row.Row.{Row}
use Rattle.rx_cli.proofs.Ready.{ready}

-- a goal on both entries fits the rules
pub fits_goal : (integers : Integers) (compared : Compared) → IsReady compared → (t : Translation) →
    Translates integers compared (Some t) → (n : ℕ) → n ≡
    count_in compared.two.program compared.two.first →
    (rows : List Row) (goal : Equation)
    → goal ≡ goal_at t.first t.second n rows → IsFitting t.rules goal
fits_goal integers compared is t translated n count rows goal goal_is =
    let first = ap Some (sym count) in
    subst (IsFitting t.rules) (sym goal_is) (record {
      left =
          left_fits integers compared.two.program is.scoped compared.two.first compared.two.second
          t.rules
          t.first t.second translated n rows (is.first_counts ∙ first);
      right =
          right_fits integers compared.two.program is.scoped compared.two.first compared.two.second
          t.rules
          t.first t.second translated n rows (is.second_counts ∙ first);
    })

-- the rules and such a goal are the problem
pub is_problem : (integers : Integers) (compared : Compared) (t : Translation) →
    Translates integers compared (Some t) → (rows : List Row) →
    FormsSome (Some rows) (rows_of compared.precondition) → (n : ℕ) →
    n ≡ count_in compared.two.program compared.two.first → (bounded : List Row) →
    bounded ≡ rows_in integers n rows → (goal : Equation) →
    goal ≡ goal_at t.first t.second n bounded →
    IsProblem integers compared (record { rules = t.rules; goal = goal })
is_problem integers compared t translated rows forms n count bounded bounded_is goal goal_is =
    record {
      first = t.first;
      second = t.second;
      translated = translated;
      within = forms.1;
      goal =
          goal_is ∙ (λ i. goal_at t.first t.second (count i)
          ((bounded_is ∙ (λ j. rows_in integers (count j) (forms.0 j))) i));
    }

-- arguments that meet a precondition meet its rows
meets_rows : (program : Resolved) (pre : Option Expr) (arguments : List ℤ) → HasRowForm pre →
    Meets program pre arguments → AllHold (assigned arguments) (rows_of pre).form
meets_rows program None arguments form met = λ k d h. let no : ⊥ = omega (arith, h) in absurd no
meets_rows program (Some pre) arguments form (value, outcome, other) =
    let means = means_its_rows program pre arguments form in
    let same : Value value ≡ Value means.value = sym (outcome 0) ∙ means.outcome 0 in
    let values : value ≡ means.value = cc in
    means.rows.1 (subst (λ v. v ≢ pos 0) values other)

-- what is reached alike is convertible
reached : (parts : RuleParts) (s t : Ground) →
    HaveConvertibleNormalForms (Fitting parts) (Instance parts.rules) s t →
    ReachConvertible parts.rules s t
reached parts s t ends = record {
  left = ends.left.end;
  right = ends.right.end;
  left_result = ends.left.is_result;
  right_result = ends.right.is_result;
  left_reached = ends.left.reached;
  right_reached = ends.right.reached;
  convertible = ends.convertible;
}

module _ (integers : Integers) (compared : Compared) (problem : Problem)
    (is_ready : IsReady compared) (is : IsProblem integers compared problem) where
  abbrev count : ℕ
  count = count_in compared.two.program compared.two.first

  abbrev rows : List Row
  rows = rows_in integers count (rows_of compared.precondition).form

  abbrev goal : Equation
  goal = goal_at is.first is.second count rows

  -- the goal fits the rules
  goal_fits : IsFitting problem.rules goal
  goal_fits = record {
    left =
        left_fits integers compared.two.program is_ready.scoped compared.two.first
        compared.two.second
        problem.rules is.first is.second is.translated count rows is_ready.first_counts;
    right =
        right_fits integers compared.two.program is_ready.scoped compared.two.first
        compared.two.second
        problem.rules is.first is.second is.translated count rows is_ready.second_counts;
  }

  pub problem_fits : IsFitting problem.rules problem.goal
  problem_fits = subst (IsFitting problem.rules) (sym is.goal) goal_fits

  -- integers of the kind that meet the precondition meet the rows of the goal
  rows_hold : (arguments : List ℤ) → length arguments ≡ count → AreInts integers arguments
      → Meets compared.two.program compared.precondition arguments →
      AllHold (assigned arguments) rows
  rows_hold arguments long ints met =
      subst (λ n. AllHold (assigned arguments)
      (rows_in integers n (rows_of compared.precondition).form)) long
      ((bounds_hold integers (rows_of compared.precondition).form arguments).1
      (meets_rows compared.two.program compared.precondition arguments is_ready.row_form met, ints))

  -- so both functions return alike where a log is accepted
  pub problem_alike : (log : Log) → IsAccepted problem.rules problem.goal log →
      AreAlike integers compared
  problem_alike log accepted arguments long ints met =
      goal_alike integers compared.two.program is_ready.scoped compared.two.first
      compared.two.second
      problem.rules is.first is.second is.translated count rows
      is_ready.first_counts is_ready.second_counts
      (λ a holds. reached problem.rules (ground_at a goal.left) (ground_at a goal.right)
      (accepted_ends_alike problem.rules goal log
      (translation_made integers compared.two.program is_ready.scoped compared.two.first
      compared.two.second
      problem.rules is.first is.second is.translated)
      (ap (λ (parts : RuleParts). parts.domains) is.translated.parts_are) goal_fits
      (subst (λ g. IsAccepted problem.rules g log) is.goal accepted) a holds))
      arguments long (rows_hold arguments long ints met)

pub problem_agrees : (f : Functions) (source : List ℕ) (compared : Compared) (problem : Problem)
    → front_stage f source (Goes compared) → IsProblem f.integers compared problem
    → (log : Log) → IsAccepted problem.rules problem.goal log → Agrees source f
problem_agrees f source compared problem front is log accepted = record {
  compared = compared;
  front = front;
  alike =
      problem_alike f.integers compared problem
      (ready f.integers source f.first f.second f.precondition compared front)
      is log accepted;
}
