-- What the refuter answers is right.
use Rattle.std.proofs.Common.{rules}
use Rattle.rx_solve.proofs.Calls.{solver_by}
use Rattle.test_search.proofs.wider_calls.wider_of.Goals as goal

pub find_wider_domains-requires : goal.find_wider_domains-requires
find_wider_domains-requires c =
    record { solver = solver_by _ (λ f a. search rules) (λ f a r f' k. search rules) _ }
