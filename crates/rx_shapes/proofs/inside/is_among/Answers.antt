-- The test is the definition's.
use Rattle.rx_row.proofs.Membership.{stands_is}
use Rattle.rx_shapes.proofs.inside.is_among.Goals as goal

pub returns : goal.returns
returns c = stands_is c.contains.result c.args.rows.now c.args.row.now c.contains.ensures
