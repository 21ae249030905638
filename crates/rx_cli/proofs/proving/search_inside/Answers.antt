-- The log is accepted with the domains.
use Rattle.std.proofs.Common.{subst, sym}
use Rattle.rx_search.specs.Ends.{IsEnd}
use Rattle.rx_search.proofs.BegunLaws.{fits_inside}
use Rattle.rx_cli.specs.Searches.{sought}
use Rattle.rx_cli.proofs.Searching.{inside_end, inside_log}
use Rattle.rx_cli.proofs.proving.search_inside.Goals as goal

pub search_both-requires-clause-fits : goal.search_both-requires-clause-fits
search_both-requires-clause-fits g c =
    fits_inside c.args.problem.now.rules c.args.problem.now.goal c.args.inside c.requires.begun.1
    c.requires.fits

pub returns-in-Ok-clause-found : goal.returns-in-Ok-clause-found
returns-in-Ok-clause-found g c =
    let begun = c.requires.begun in
    let found = c.in-Ok.ensures.found in
    inside_log c.args.problem.now c.args.effort c.args.inside begun.1 begun.0 c.in-Ok.log
    c.log_inside.result found c.log_inside.ensures.same
    (c.log_inside.ensures.accepted c.args.problem.now.rules c.args.problem.now.goal begun.1
    found.accepted)
    (c.log_inside.ensures.shallow found.shallow begun.1.found.shallow)

pub returns-in-Err-clause-found : goal.returns-in-Err-clause-found
returns-in-Err-clause-found g c =
    let begun = c.requires.begun in
    let problem = c.args.problem.now in
    let effort = c.args.effort in
    subst (IsEnd effort.depth effort.budget
    (sought problem.rules problem.goal effort.depth effort.budget)) (sym c.dropped.ensures)
    (inside_end problem effort c.args.inside begun.1 begun.0 c.in-Err.end c.in-Err.ensures.found)
