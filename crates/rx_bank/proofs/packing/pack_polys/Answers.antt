-- One more number represents one more polynomial.
use Rattle.rx_bank.specs.Packing.{number_within, poly_at}
use Rattle.rx_bank.proofs.Lasting.{number_lasts, numbered}
use Rattle.rx_bank.proofs.Growing.{packed_more}
use Rattle.rx_bank.proofs.packing.pack_polys.Goals as goal

pub loop-poly-preserved : goal.loop-poly-preserved
loop-poly-preserved c =
    let s = c.loop-poly in
    let n = c.in_ok-number.field-0 in
    let poly = c.poly-item.result in
    record {
      stands =
          packed_more number_within poly_at number_lasts s.bank c.number.new.self
          c.number.ensures.stay s.numbers c.args.polys.now s.poly-index poly c.loop-poly-test.true
          c.poly-item.is c.push.new.self n c.in_ok-push.ensures.ok s.invariant.stands
          (numbered c.number.new.self n poly c.in_ok-number.ensures.number);
      stay = λ i p e. c.number.ensures.stay i p (s.invariant.stay i p e);
    }
