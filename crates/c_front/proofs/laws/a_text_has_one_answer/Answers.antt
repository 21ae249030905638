use Rattle.c_front.proofs.OneCondition.{one_compared}
use Rattle.c_front.proofs.Readings.{front_of, reading_of}
use Rattle.c_front.proofs.laws.a_text_has_one_answer.Goals as goal

pub returns-clause-one : goal.returns-clause-one
returns-clause-one c = one_compared

pub returns-clause-causes : goal.returns-clause-causes
returns-clause-causes c =
    λ integers source first second x. (
      reading_of integers source first second x,
      front_of integers source first second x,
    )
