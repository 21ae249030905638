-- A difference that is found is a counterexample, and functions that have one do not agree.
use Rattle.std.proofs.Common.{◌≡◌, ◌≢◌, ◌∙◌, ℕ, ℤ, pos, List, Option, Some, None, refl, sym, subst}
use Rattle.std.specs.Prelude.{slice_get}
use Rattle.c_ast.specs.declared.expr.Expr.{Expr}
use Rattle.c_ast.specs.declared.integers.Integers.TheVariants.{Unbounded}
use Rattle.c_ast.specs.declared.program.Function.{Function}
use Rattle.c_ast.specs.declared.program.Resolved.{Resolved}
use Rattle.c_front.proofs.OneCondition.{one_whole}
use Rattle.c_front.specs.declared.pairs.Compared.{Compared}
use Rattle.c_front.specs.declared.stages.Next.TheVariants.{Goes}
use Rattle.c_meaning.proofs.Rounds.{one_outcome}
use Rattle.c_meaning.specs.Outcomes.{Value}
use Rattle.c_refute.proofs.Differences.{difference_meets, difference_returns}
use Rattle.c_refute.proofs.PointLists.{point_long}
use Rattle.c_meaning.specs.declared.outcomes.Outcome.{Outcome}
use Rattle.c_refute.specs.Laws as found
use Rattle.c_refute.specs.Laws.{meant}
use Rattle.c_refute.specs.Points.{IsFirstDifference, arity_at, finding_at}
use Rattle.c_names.specs.Expressions.{count_at}
use Rattle.rx_agreement.proofs.Preconditions.{means_its_rows}
use Rattle.rx_command.specs.Commands.{Functions}
use Rattle.rx_cli.specs.Agreement.{Agrees, AreAlike, Meets}
use Rattle.rx_cli.specs.Problems.{front_stage}
use Rattle.rx_cli.specs.Refutations.{Refutes, arity_in, points_in}
use Rattle.rx_cli.specs.Steps.{HasRowForm}
use Rattle.rx_cli.proofs.Ready.{ready}

-- a function has as many parameters as its points have arguments
same_count : (function : Option Function) → arity_at function ≡ count_at function
same_count None = refl
same_count (Some f) = refl

-- a precondition that is a row form has its value with any number of rounds
meets_always : (program : Resolved) (pre : Option Expr) (rounds : ℕ) (arguments : List ℤ) →
    HasRowForm pre → found.Meets program rounds pre arguments → Meets program pre arguments
meets_always program None rounds arguments form met = tt
meets_always program (Some pre) rounds arguments form (value, outcome, other) =
    let means = means_its_rows program pre arguments form in
    let same : Value value ≡ Value means.value = sym outcome ∙ means.outcome rounds in
    let values : value ≡ means.value = cc in
    (means.value, means.outcome, subst (λ v. v ≢ pos 0) values other)

-- the first difference over the points is a counterexample
pub difference_refutes : (f : Functions) (source : List ℕ) (compared : Compared) (side rounds : ℕ)
    (arguments : List ℤ) (first second : Outcome)
    → front_stage f source (Goes compared)
    → IsFirstDifference (finding_at compared.two.program compared.two.first compared.two.second
    compared.precondition rounds) (points_in compared side) arguments first second →
    Refutes source f
difference_refutes f source compared side rounds arguments first second front is =
    let two = compared.two in
    let returns = difference_returns two.program two.first two.second compared.precondition rounds
    arguments first second is.different in
    let met = difference_meets two.program two.first two.second compared.precondition rounds
    arguments first second is.different in
    record {
      compared = compared;
      front = front;
      arguments = arguments;
      count =
          point_long side (arity_in compared) is.before is.after arguments is.is_point ∙
          same_count (slice_get two.program.functions two.first);
      meets =
          meets_always two.program compared.precondition rounds arguments
          (ready f.integers source f.first f.second f.precondition compared front).row_form met;
      first = meant first;
      second = meant second;
      first_returns = returns.first_returns;
      second_returns = returns.second_returns;
      different = returns.different;
    }

-- functions that agree have no counterexample
pub never_both : (f : Functions) (source : List ℕ) → f.integers ≡ Unbounded → Agrees source f →
    Refutes source f → ⊥
never_both f source plain agrees refutes =
    let two = refutes.compared.two in
    let same : agrees.compared ≡ refutes.compared =
    one_whole f.integers source f.first f.second f.precondition (Goes agrees.compared)
    (Goes refutes.compared)
    agrees.front refutes.front in
    let are : AreAlike Unbounded refutes.compared =
    subst (λ i. AreAlike i refutes.compared) plain
    (subst (AreAlike f.integers) same agrees.alike) in
    let alike = are refutes.arguments refutes.count tt refutes.meets in
    let firsts = one_outcome Unbounded two.program two.first refutes.arguments refutes.first
    alike.outcome
    refutes.first_returns alike.first in
    let seconds = one_outcome Unbounded two.program two.second refutes.arguments refutes.second
    alike.outcome
    refutes.second_returns alike.second in
    refutes.different (firsts ∙ sym seconds)
