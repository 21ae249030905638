-- What the refuter answers is right, however its calls are counted.
use Rattle.std.proofs.Common.{rules}
use Rattle.rx_solve.proofs.Calls.{solver_by}
use Rattle.test_search.proofs.searching.calls_of.Goals as goal

pub searched_by-requires-clause-solver : goal.searched_by-requires-clause-solver
searched_by-requires-clause-solver c =
    solver_by _ (λ f a. search rules) (λ f a r f' k. search rules) _
