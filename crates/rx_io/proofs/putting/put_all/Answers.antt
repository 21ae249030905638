-- The run begins with all bytes left, and each turn lengthens it by a write.
use Rattle.std.proofs.Common.{◌<◌, refl, arith}
use Rattle.std.proofs.KnownBytes.{Appends-nil}
use Rattle.rx_io.specs.Puts.{start}
use Rattle.rx_io.proofs.PutsLemmas.{sent_on, sends_on}
use Rattle.rx_io.proofs.putting.put_all.Goals as goal

pub loop-rest-init : goal.loop-rest-init
loop-rest-init g c = record {
  reach = g.met.O.Sink.reaches_same c.args.out.now;
  later = omega arith;
  sent = (0, omega arith, refl, Appends-nil _);
  run = start;
}

pub loop-rest-preserved : goal.loop-rest-preserved
loop-rest-preserved g c =
    let some : 0 < c.in-Ok.count = omega arith in
    record {
      reach = g.met.O.Sink.reaches_on _ _ _ c.loop-rest.invariant.reach c.in-Ok.ensures.reach;
      later = omega (arith, c.in-Ok.ensures.later);
      sent =
          sent_on _ _ _ _ _ c.in-Ok.count c.loop-rest.invariant.sent c.in-Ok.ensures.bound
          c.in-Ok.ensures.bytes;
      run = sends_on c.loop-rest.invariant.run c.in-Ok.ensures.gives some;
    }
