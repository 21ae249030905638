-- The closure finds lemmas each time, however its calls are counted.
use Rattle.std.proofs.Common.{rules}
use Rattle.rx_find_lemmas.proofs.Calls.{finder_while}
use Rattle.test_search.proofs.by_solver.lemmas_by.Goals as goal

pub searched_with-requires-clause-lemma : goal.searched_with-requires-clause-lemma
searched_with-requires-clause-lemma g c =
    finder_while _ _ (λ f. Unit {0}) (λ f given i is. search rules)
    (λ f given back f' called i is. search rules) _ tt
