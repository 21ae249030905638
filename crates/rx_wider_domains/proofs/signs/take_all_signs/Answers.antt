-- One row more.
use Rattle.std.proofs.Common.{◌∙◌}
use Rattle.rx_wider_domains.specs.Signs.{signs}
use Rattle.rx_wider_domains.proofs.TakenLaws.{flat_next}
use Rattle.rx_wider_domains.proofs.signs.take_all_signs.Goals as goal

pub loop-row-preserved : goal.loop-row-preserved
loop-row-preserved c =
    flat_next signs c.loop-row.rows c.take_signs.new.rows c.args.more.now c.loop-row.row-index
    c.row-item.result c.loop-row-test.true c.row-item.is c.in_ok-take_signs.ensures ∙
    c.loop-row.invariant
