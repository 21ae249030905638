-- The set has the wider domains, and is coverable and has ranks with these.
use Rattle.rx_search.proofs.BegunLaws.{wider_begun, wider_found, wider_nowhere}
use Rattle.rx_search.proofs.beginning.begin_wider.Goals as goal

pub inside_of-requires : goal.inside_of-requires
inside_of-requires g c =
    let found = c.in_ok-domains.ensures in
    wider_found c.args.rules.now c.args.goal.now c.requires.begun c.in_ok-domains.field-0
    found.rows c.in-Some.domains c.in-Some.is found.lawful found.keeps found.certificates

pub returns-in_ok-inside-in-Some-clause-begun : goal.returns-in_ok-inside-in-Some-clause-begun
returns-in_ok-inside-in-Some-clause-begun g c =
    let found = c.in_ok-domains.ensures in
    let made = c.in_ok-inside-in-Some.ensures in
    wider_begun c.args.rules.now c.args.goal.now c.requires.begun c.in_ok-domains.field-0
    found.rows c.in-Some.domains c.in-Some.is c.in_ok-inside-in-Some.inside made.inside made.kind
    made.domains found.coverable found.ranked

pub returns-in-None-clause-begun : goal.returns-in-None-clause-begun
returns-in-None-clause-begun g c =
    wider_nowhere c.args.rules.now c.args.goal.now c.requires.begun c.in_ok-domains.field-0
    c.in_ok-domains.ensures.rows c.in-None.is
