-- What the refuter answers is right.
use Rattle.std.proofs.Common.{rules}
use Rattle.rx_solve.proofs.Calls.{solver_by}
use Rattle.test_settling.proofs.settling_calls.settled.Goals as goal

pub settle_tasks-requires-clause-solver : goal.settle_tasks-requires-clause-solver
settle_tasks-requires-clause-solver c =
    solver_by _ (λ f a. search rules) (λ f a r f' k. search rules) _
