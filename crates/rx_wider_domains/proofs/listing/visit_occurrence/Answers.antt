-- There is no such list.
use Rattle.std.proofs.Common.{◌≡◌, ◌∙◌, sym, arith, ◌≤◌, Some, length}
use Rattle.std.specs.Prelude.{slice_get}
use Rattle.rx_pairs.specs.Pairs.{part}
use Rattle.rx_wider_domains.specs.Offers.{offers}
use Rattle.rx_wider_domains.proofs.GroupLaws.{past}
use Rattle.rx_wider_domains.proofs.listing.visit_occurrence.Goals as goal

pub returns-else-at-len : goal.returns-else-at-len
returns-else-at-len c =
    let is : slice_get c.args.names.now c.args.sym.0 ≡ Some c.in-Some.at =
    sym c.list_number.ensures ∙ c.in-Some.is in
    let count = c.len.ensures in
    let far : length c.args.lists.now.items ≤ c.in-Some.at =
    omega (arith, count, c.if-at-len.false) in
    past c.args.names.now c.args.lists.now.items c.args.sym.0 c.in-Some.at
    (offers c.args.names.now c.args.offering.now (part c.args.sym c.args.args.now)) is far
