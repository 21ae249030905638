-- One more packed goal represents one more goal.
use Rattle.std.proofs.Common.{◌≡◌, sym, slice_get, Some}
use Rattle.std.proofs.lemmas.Option.{get_or_from_slice_get, slice_get_within}
use Rattle.rx_bank.specs.Packing.{equation_at, equation_within}
use Rattle.rx_bank.proofs.Lasting.{equation_lasts}
use Rattle.rx_bank.proofs.Growing.{packed_more}
use Rattle.rx_bank.proofs.packing.pack_goals.Goals as goal

pub loop-at-preserved : goal.loop-at-preserved
loop-at-preserved c =
    let s = c.loop-at in
    let b = c.pack_equation.new.bank in
    let goals = c.args.state.now.goals in
    let here = c.in-Some.goal.now in
    let at : slice_get goals s.at ≡ Some here = sym c.in-Some.ensures in
    record {
      stands =
          packed_more equation_within equation_at equation_lasts s.bank b
          c.pack_equation.ensures.stay s.packed goals s.at here
          (slice_get_within goals s.at here at)
          (sym (get_or_from_slice_get goals s.at here here at)) c.push.new.self
          c.in_ok-pack_equation.field-0 c.in_ok-push.ensures.ok s.invariant.stands
          c.in_ok-pack_equation.ensures.equation;
      stay = λ i p e. c.pack_equation.ensures.stay i p (s.invariant.stay i p e);
    }
