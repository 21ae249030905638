-- The closure finds lemmas each time; what is found gives the answer.
use Rattle.std.proofs.Common.{rules}
use Rattle.rx_find_lemmas.proofs.Calls.{finder_while}
use Rattle.rx_cli.specs.Searches.{sought}
use Rattle.rx_cli.proofs.Searching.{found_shallow}
use Rattle.rx_cli.proofs.proving.search_by.Goals as goal

pub search_from-found-requires-clause-lemma : goal.search_from-found-requires-clause-lemma
search_from-found-requires-clause-lemma g c =
    finder_while _ _ (λ f. Unit {0}) (λ f given i is. search rules)
    (λ f given back f' called i is. search rules) _ tt

pub answer_of-requires : goal.answer_of-requires
answer_of-requires g c =
    let problem = c.args.problem.now in
    let effort = c.args.effort in
    found_shallow problem effort
    (sought problem.rules problem.goal effort.depth effort.budget)
    c.search_from-found.result c.search_from-found.ensures.found

pub returns-clause-answer : goal.returns-clause-answer
returns-clause-answer g c =
    let problem = c.args.problem.now in
    let effort = c.args.effort in
    c.answer_of.ensures.answer problem effort
    (sought problem.rules problem.goal effort.depth effort.budget)
    c.search_from-found.ensures.found
