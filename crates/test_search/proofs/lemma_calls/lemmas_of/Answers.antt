-- What the refuter answers is right.
use Rattle.std.proofs.Common.{rules}
use Rattle.rx_solve.proofs.Calls.{solver_by}
use Rattle.test_search.proofs.lemma_calls.lemmas_of.Goals as goal

pub lemmas-requires : goal.lemmas-requires
lemmas-requires c =
    record { solver = solver_by _ (λ f a. search rules) (λ f a r f' k. search rules) _ }
