-- The walks make the lists by group.
use Rattle.std.proofs.Common.{◌≡◌, IfOk, List, subst}
use Rattle.rx_row.specs.declared.row.Row.{Row}
use Rattle.rx_wider_domains.proofs.ListLaws.{walks_are}
use Rattle.rx_wider_domains.proofs.handing.find_lists.Goals as goal

pub returns : goal.returns
returns c =
    subst (λ (all : List (List Row)). IfOk c.walk_lists.result (λ lists. lists.items ≡ all))
    (walks_are c.args.names.now c.args.parts.now c.args.goal.now) c.walk_lists.ensures
