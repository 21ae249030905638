-- What the refuter answers is right.
use Rattle.std.proofs.Common.{rules}
use Rattle.rx_solve.proofs.Calls.{solver_by}
use Rattle.test_settling.proofs.settling_calls.found.Goals as goal

pub descendants-requires-clause-solver : goal.descendants-requires-clause-solver
descendants-requires-clause-solver c =
    solver_by _ (λ f a. search rules) (λ f a r f' k. search rules) _
