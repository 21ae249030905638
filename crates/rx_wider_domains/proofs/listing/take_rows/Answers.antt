-- There is no such list.
use Rattle.std.proofs.Common.{◌≡◌, ◌∙◌, ap, sym, arith, ◌≤◌, Some, length}
use Rattle.std.specs.Prelude.{slice_get}
use Rattle.std.specs.List.{flat_map}
use Rattle.rx_wider_domains.specs.Walks.{with_signs}
use Rattle.rx_wider_domains.specs.Signs.{signs}
use Rattle.rx_wider_domains.proofs.GroupLaws.{past}
use Rattle.rx_wider_domains.proofs.listing.take_rows.Goals as goal

pub returns-else-at-len : goal.returns-else-at-len
returns-else-at-len c =
    let is : slice_get c.args.names.now c.in-Some.sym.0 ≡ Some c.in-Some-list_number.at =
    sym c.list_number.ensures ∙ c.in-Some-list_number.is in
    let count = c.len.ensures in
    let far : length c.args.lists.now.items ≤ c.in-Some-list_number.at =
    omega (arith, count, c.if-at-len.false) in
    past c.args.names.now c.args.lists.now.items c.in-Some.sym.0 c.in-Some-list_number.at
    (flat_map signs c.args.rows.now) is far ∙
    sym (ap (with_signs c.args.names.now c.args.rows.now c.args.lists.now.items) c.in-Some.is)
