-- Whether the lists serve decides.
use Rattle.std.proofs.Common.{◌∙◌, ap, sym, true, false, Some}
use Rattle.rx_wider_domains.specs.Finding.{serves}
use Rattle.rx_wider_domains.proofs.ServingLaws.{domains_served}
use Rattle.rx_wider_domains.proofs.finding.domains_where.Goals as goal

pub returns-then-not-served-clause-rows : goal.returns-then-not-served-clause-rows
returns-then-not-served-clause-rows g c =
    let rules = c.args.aim.rules.now in
    let goal_here = c.args.aim.goal.now in
    domains_served rules goal_here c.args.lists.items false
    (ap (serves rules goal_here) (sym c.as_slice.ensures.value) ∙
    sym c.in_ok-served.ensures.serves ∙ c.if-not-served.true)

pub returns-clause-rows : goal.returns-clause-rows
returns-clause-rows g c =
    let rules = c.args.aim.rules.now in
    let goal_here = c.args.aim.goal.now in
    ap Some c.in_ok-domains.ensures.rows ∙
    domains_served rules goal_here c.args.lists.items true
    (ap (serves rules goal_here) (sym c.as_slice.ensures.value) ∙
    sym c.in_ok-served.ensures.serves ∙ c.if-not-served.false)
