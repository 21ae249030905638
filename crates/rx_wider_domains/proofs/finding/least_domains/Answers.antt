-- What is left serves.
use Rattle.std.proofs.Common.{◌≡◌, ◌∙◌, sym, subst, true, List}
use Rattle.rx_row.specs.declared.row.Row.{Row}
use Rattle.rx_wider_domains.specs.Finding.{serves}
use Rattle.rx_wider_domains.proofs.ServingLaws.{left_out_serves}
use Rattle.rx_wider_domains.proofs.finding.least_domains.Goals as goal

pub domains_from-requires-clause-serves : goal.domains_from-requires-clause-serves
domains_from-requires-clause-serves g c =
    subst (λ (lists : List (List Row)).
    serves c.args.aim.rules.now c.args.aim.goal.now lists ≡ true)
    (sym (c.as_slice.ensures.value ∙ c.in_ok-leave_out.ensures.lists))
    (left_out_serves c.args.aim.rules.now c.args.aim.goal.now c.args.lists.items
    c.requires.serves)
