-- What the refuter answers is right.
use Rattle.std.proofs.Common.{rules}
use Rattle.rx_solve.proofs.Calls.{solver_by}
use Rattle.test_search.proofs.search_calls.ranked.Goals as goal

pub find_ranks-requires-clause-solver : goal.find_ranks-requires-clause-solver
find_ranks-requires-clause-solver c =
    solver_by _ (λ f a. search rules) (λ f a r f' k. search rules) _
