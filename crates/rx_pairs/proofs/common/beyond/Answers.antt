-- One frame fewer of each.
use Rattle.rx_pairs.proofs.CommonLaws.{step_over}
use Rattle.rx_pairs.proofs.common.beyond.Goals as goal

pub loop-here-preserved : goal.loop-here-preserved
loop-here-preserved c =
    let over = step_over c.args.term.now c.args.other.now c.loop-here.here.now c.loop-here.rest.now
    c.get-here.result.now c.get-rest.result.now
    c.in-Frame-Frame.field-0-0 c.in-Frame-Frame.field-0-1 c.in-Frame-Frame.field-1-0
    c.in-Frame-Frame.field-1-1
    c.in-Frame-Frame.inner c.in-Frame-Frame.further c.in-Frame-Frame.is-0 c.in-Frame-Frame.is-1
    c.get-here.ensures c.get-rest.ensures in
    record { part = over.0 c.loop-here.invariant.part; depth = over.1 c.loop-here.invariant.depth }
