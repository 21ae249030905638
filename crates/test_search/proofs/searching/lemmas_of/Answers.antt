-- What the refuter answers is right.
use Rattle.std.proofs.Common.{rules}
use Rattle.rx_solve.proofs.Calls.{solver_by}
use Rattle.test_search.proofs.searching.lemmas_of.Goals as goal

pub lemmas_by-requires-clause-solver : goal.lemmas_by-requires-clause-solver
lemmas_by-requires-clause-solver c =
    solver_by _ (λ f a. search rules) (λ f a r f' k. search rules) _
