-- The packed frames are over what is packed last, or one more of them is over the rest.
use Rattle.std.proofs.Common.{◌≡◌}
use Rattle.rx_term.specs.declared.term.Term.TheVariants as term
use Rattle.rx_bank.proofs.Growing.{over_call, over_frame, over_return}
use Rattle.rx_bank.proofs.packing.pack_term.Goals as goal

pub returns-in-Return-clause-term : goal.returns-in-Return-clause-term
returns-in-Return-clause-term c =
    let s = c.loop-here in
    over_return s.bank c.number.new.self c.number.ensures.stay s.frames s.here.now c.args.term.now
    s.invariant.stands c.in_ok-number-in-Return.field-0 c.in-Return.value
    c.in_ok-number-in-Return.ensures.number c.in-Return.is

pub returns-in-Call-clause-term : goal.returns-in-Call-clause-term
returns-in-Call-clause-term c =
    let s = c.loop-here in
    let ps = c.as_slice.result.now in
    let is : s.here.now ≡ term.Call c.in-Call.sym ps = cc in
    over_call s.bank c.pack_polys.new.bank c.pack_polys.ensures.stay s.frames s.here.now
    c.args.term.now s.invariant.stands c.in-Call.sym c.in_ok-args-in-Call.args ps
    c.in_ok-args-in-Call.ensures.numbers is

pub loop-here-preserved : goal.loop-here-preserved
loop-here-preserved c =
    let s = c.loop-here in
    let packed = c.pack_polys-in-Frame in
    let ps = c.as_slice-in-Frame.result.now in
    let inner = c.get-here.result.now in
    let is : s.here.now ≡ term.Frame c.in-Frame.sym ps inner = cc in
    record {
      stands =
          over_frame s.bank packed.new.bank packed.ensures.stay s.frames s.here.now c.args.term.now
          s.invariant.stands c.in-Frame.sym c.in_ok-args-in-Frame.args ps inner
          c.in_ok-args-in-Frame.ensures.numbers is c.push.new.self c.in_ok-push-in-Frame.ensures.ok;
      stay = λ i p e. packed.ensures.stay i p (s.invariant.stay i p e);
    }
