-- The candidates are lawful lists.
use Rattle.std.proofs.Common.{◌≡◌, None, List, subst, sym}
use Rattle.rx_row.specs.declared.row.Row.{Row}
use Rattle.rx_domain.specs.Setting.{bad_domain}
use Rattle.rx_find_domains.proofs.LawfulLaws.{all_lawful}
use Rattle.rx_find_domains.proofs.finding.find_domains.Goals as goal

pub settled_domains-requires-clause-lawful : goal.settled_domains-requires-clause-lawful
settled_domains-requires-clause-lawful g c =
    subst (λ (lists : List (List Row)). bad_domain c.args.rules.now.symbols lists ≡ None)
    (sym c.in_ok-lists.ensures) (all_lawful c.args.rules.now c.args.goal.now)
