-- What the refuter answers is right.
use Rattle.std.proofs.Common.{rules}
use Rattle.rx_solve.proofs.Calls.{solver_by}
use Rattle.test_search.proofs.use_calls.use_at.Goals as goal

pub find_use_beside-found-requires : goal.find_use_beside-found-requires
find_use_beside-found-requires c =
    record { solver = solver_by _ (λ f a. search rules) (λ f a r f' k. search rules) _ }

pub find_use-found-requires : goal.find_use-found-requires
find_use-found-requires c =
    record { solver = solver_by _ (λ f a. search rules) (λ f a r f' k. search rules) _ }
