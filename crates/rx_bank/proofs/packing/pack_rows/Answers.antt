-- One more packed row represents one more row.
use Rattle.rx_bank.specs.Packing.{row_at, row_within}
use Rattle.rx_bank.proofs.Lasting.{row_lasts}
use Rattle.rx_bank.proofs.Growing.{packed_more}
use Rattle.rx_bank.proofs.packing.pack_rows.Goals as goal

pub loop-row-preserved : goal.loop-row-preserved
loop-row-preserved c =
    let s = c.loop-row in
    let b = c.pack_row.new.bank in
    record {
      stands =
          packed_more row_within row_at row_lasts s.bank b c.pack_row.ensures.stay s.packed
          c.args.rows.now s.row-index c.row-item.result c.loop-row-test.true c.row-item.is
          c.push.new.self c.in_ok-pack_row.field-0 c.in_ok-push.ensures.ok s.invariant.stands
          c.in_ok-pack_row.ensures.row;
      stay = λ i p e. c.pack_row.ensures.stay i p (s.invariant.stay i p e);
    }
