use Rattle.c_ast.specs.declared.integers.Integers.TheVariants.{Unbounded}
use Rattle.c_meaning.specs.Programs.{rounds}
use Rattle.c_meaning.specs.Statements.{calls_with}
use Rattle.c_meaning.proofs.StraightValues.{expr_straight, body_straight}
use Rattle.c_meaning.proofs.laws.straight_bodies_return_their_value.Goals as goal

pub returns-clause-expression : goal.returns-clause-expression
returns-clause-expression c =
    λ program n e s k value. expr_straight (calls_with (rounds Unbounded program n)) s e k value

pub returns-clause-call : goal.returns-clause-call
returns-clause-call c = body_straight

pub returns-clause-returns : goal.returns-clause-returns
returns-clause-returns c = λ program f e arguments k body value.
    record {
      enough = 1;
      outcome = body_straight program f e arguments k body value 0;
      is_answer =
          tt;
    }
