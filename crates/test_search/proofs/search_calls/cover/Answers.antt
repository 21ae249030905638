-- What the refuter answers is right.
use Rattle.std.proofs.Common.{rules}
use Rattle.rx_solve.proofs.Calls.{solver_by}
use Rattle.test_search.proofs.search_calls.cover.Goals as goal

pub find_cover-requires : goal.find_cover-requires
find_cover-requires c =
    record { solver = solver_by _ (λ f a. search rules) (λ f a r f' k. search rules) _ }
