-- The set is that of the rules with these domains.
use Rattle.std.proofs.Common.{◌≡◌, subst}
use Rattle.rx_log.specs.Acceptance.{Accepted, verdict_over}
use Rattle.rx_search.proofs.search.log_inside.Goals as goal

pub returns-clause-accepted : goal.returns-clause-accepted
returns-clause-accepted c = λ parts goal is over.
    c.with_domains.ensures.accepted c.args.inside.kind parts goal is.found
    (subst (λ set. verdict_over set goal c.args.log ≡ Accepted) is.set over)
