-- What is known of the solver says what it answers.
use Rattle.rx_solve.proofs.Calls.{answer_now, solver_then}
use Rattle.rx_solve.proofs.asking.ask.Goals as goal

pub returns-clause-solver : goal.returns-clause-solver
returns-clause-solver g c = solver_then g.S.FnMut c.requires.solver c.solve.ensures

pub returns-clause-answer : goal.returns-clause-answer
returns-clause-answer g c = answer_now g.S.FnMut c.requires.solver c.solve.ensures
