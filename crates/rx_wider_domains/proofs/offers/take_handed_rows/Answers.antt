-- One row more.
use Rattle.std.proofs.Common.{◌∙◌}
use Rattle.rx_wider_domains.specs.Offers.{handed_row}
use Rattle.rx_wider_domains.proofs.TakenLaws.{flat_next}
use Rattle.rx_wider_domains.proofs.offers.take_handed_rows.Goals as goal

pub loop-row-preserved : goal.loop-row-preserved
loop-row-preserved c =
    flat_next (handed_row c.args.places.now) c.loop-row.rows c.take_handed_row.new.rows
    c.args.handed.now c.loop-row.row-index c.row-item.result c.loop-row-test.true c.row-item.is
    c.in_ok-take_handed_row.ensures ∙ c.loop-row.invariant
