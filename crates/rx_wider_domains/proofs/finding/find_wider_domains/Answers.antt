-- By the longer lists.
use Rattle.std.proofs.Common.{◌≡◌, List, Option, subst}
use Rattle.std.specs.Option.{option_map}
use Rattle.std.specs.Result.{IfOk}
use Rattle.rx_domain.specs.declared.domains.Domains.{Domains}
use Rattle.rx_row.specs.declared.row.Row.{Row}
use Rattle.rx_wider_domains.proofs.ServingLaws.{wider_is}
use Rattle.rx_wider_domains.proofs.finding.find_wider_domains.Goals as goal

pub returns-clause-rows : goal.returns-clause-rows
returns-clause-rows g c =
    subst (λ (rows : Option (List (List Row))). IfOk c.domains_where.result
    (λ found. option_map (λ (d : Domains). d.rows) found ≡ rows))
    (wider_is c.args.rules.now c.args.goal.now c.in_ok-lists.lists.items c.in_ok-lists.ensures)
    c.domains_where.ensures.rows
