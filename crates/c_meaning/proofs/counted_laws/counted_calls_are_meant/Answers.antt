use Rattle.c_ast.specs.declared.integers.Integers.TheVariants.{Unbounded}
use Rattle.c_meaning.specs.Programs.{call_outcome}
use Rattle.c_meaning.specs.Counted.{counted}
use Rattle.c_meaning.proofs.Meaning.{value_meant, division_meant, call_means}
use Rattle.c_meaning.proofs.counted_laws.counted_calls_are_meant.Goals as goal

pub returns-clause-value : goal.returns-clause-value
returns-clause-value c = λ program n f arguments x left is.
    value_meant n (counted program n f arguments) (call_outcome Unbounded program n f arguments) x
    left
    (call_means program n f arguments) is

pub returns-clause-division : goal.returns-clause-division
returns-clause-division c = λ program n f arguments is.
    division_meant n (counted program n f arguments) (call_outcome Unbounded program n f arguments)
    (call_means program n f arguments) is

pub returns-clause-returns : goal.returns-clause-returns
returns-clause-returns c = λ program n f arguments x left is. record {
  enough = n;
  outcome =
      value_meant n (counted program n f arguments) (call_outcome Unbounded program n f arguments) x
      left
      (call_means program n f arguments) is;
  is_answer = tt;
}

pub returns-clause-returns_error : goal.returns-clause-returns_error
returns-clause-returns_error c = λ program n f arguments is. record {
  enough = n;
  outcome =
      division_meant n (counted program n f arguments)
      (call_outcome Unbounded program n f arguments)
      (call_means program n f arguments) is;
  is_answer = tt;
}
