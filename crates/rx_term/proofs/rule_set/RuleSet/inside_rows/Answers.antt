-- The rows of a call are the last; those of a frame leave it to the part under it.
use Rattle.std.proofs.Common.{◌≡◌}
use Rattle.rx_term.specs.declared.term.Term.TheVariants.{Call, Frame}
use Rattle.rx_term.proofs.Collecting.{after_call, after_frame}
use Rattle.rx_term.proofs.rule_set.RuleSet.inside_rows.Goals as goal

pub returns-in-Call : goal.returns-in-Call
returns-in-Call c =
    let is : c.loop-here.here.now ≡ Call c.in-Call.sym c.as_slice.result.now = cc in
    record {
      forms =
          after_call c.in-Call.sym c.as_slice.result.now c.loop-here.invariant
          c.in_ok-last-in-Call.ensures.forms c.in_ok-append-in-Call.ensures.ok is;
    }

pub loop-here-preserved : goal.loop-here-preserved
loop-here-preserved c =
    let is : c.loop-here.here.now ≡
    Frame c.in-Frame.sym c.as_slice-in-Frame.result.now c.get-here.result.now = cc in
    after_frame c.in-Frame.sym c.as_slice-in-Frame.result.now c.loop-here.invariant
    c.in_ok-own-in-Frame.ensures.forms c.in_ok-append-in-Frame.ensures.ok
    c.get-here.result.now is
