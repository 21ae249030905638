use Rattle.c_ast.specs.declared.integers.Integers.TheVariants.{Unbounded}
use Rattle.c_meaning.specs.Programs.{rounds}
use Rattle.c_meaning.specs.Statements.{calls_with}
use Rattle.c_meaning.proofs.Division.{truncates, by_zero}
use Rattle.c_meaning.proofs.laws.division_drops_the_fraction.Goals as goal

pub returns-clause-truncates : goal.returns-clause-truncates
returns-clause-truncates c =
    λ program n a b s x y left right.
    truncates (calls_with (rounds Unbounded program n)) a b s x y left right

pub returns-clause-by_zero : goal.returns-clause-by_zero
returns-clause-by_zero c =
    λ integers program n a b s x left right.
    by_zero integers (calls_with (rounds integers program n)) a b s x left right
