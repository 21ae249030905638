use Rattle.c_ast.specs.declared.integers.Integers.TheVariants.{Unbounded}
use Rattle.c_meaning.specs.Programs.{expr_outcome}
use Rattle.c_meaning.specs.Counted.{counted_expr}
use Rattle.c_meaning.proofs.Meaning.{value_meant, division_meant, expression_means}
use Rattle.c_meaning.proofs.counted_laws.counted_expressions_are_meant.Goals as goal

pub returns-clause-value : goal.returns-clause-value
returns-clause-value c = λ program e n s x left is.
    value_meant n (counted_expr program e n s) (expr_outcome Unbounded program n e s) x left
    (expression_means program e n s) is

pub returns-clause-division : goal.returns-clause-division
returns-clause-division c = λ program e n s is.
    division_meant n (counted_expr program e n s) (expr_outcome Unbounded program n e s)
    (expression_means program e n s) is
