-- What is found over the set that the searches begin with is found for the problem.
use Rattle.std.proofs.Common.{subst}
use Rattle.rx_search.specs.Begun.{IsBegun}
use Rattle.rx_cli.proofs.Searching.{nowhere_found, plain_found}
use Rattle.rx_cli.proofs.proving.search_from.Goals as goal

pub search_both-requires-clause-ready : goal.search_both-requires-clause-ready
search_both-requires-clause-ready g c =
    let is = subst (IsBegun c.args.problem.now.rules c.args.problem.now.goal) c.in-Bare.is
    c.in_ok-begun.ensures.begun in
    record { coverable = c.requires.coverable; ranked = is.1 }

pub returns-in-Bare-clause-found : goal.returns-in-Bare-clause-found
returns-in-Bare-clause-found g c =
    let is = subst (IsBegun c.args.problem.now.rules c.args.problem.now.goal) c.in-Bare.is
    c.in_ok-begun.ensures.begun in
    plain_found c.args.problem.now c.args.effort c.search_both.result is.0
    c.search_both.ensures.found

pub search_inside-requires-clause-begun : goal.search_inside-requires-clause-begun
search_inside-requires-clause-begun g c =
    subst (IsBegun c.args.problem.now.rules c.args.problem.now.goal) c.in-Inside.is
    c.in_ok-begun.ensures.begun

pub returns-clause-found : goal.returns-clause-found
returns-clause-found g c =
    let is = subst (IsBegun c.args.problem.now.rules c.args.problem.now.goal) c.in-Unranked.is
    c.in_ok-begun.ensures.begun in
    nowhere_found c.args.problem.now c.args.effort c.in-Unranked.noted c.unranked_end.result is
    (c.unranked_end.ensures c.args.effort.depth c.args.effort.budget)
