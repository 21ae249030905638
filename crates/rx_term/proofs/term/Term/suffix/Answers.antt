use Rattle.rx_term.proofs.Walks.{suffix_at-frame}
use Rattle.rx_term.proofs.term.Term.suffix.Goals as goal

pub loop-left-preserved : goal.loop-left-preserved
loop-left-preserved c =
    let e = suffix_at-frame c.loop-left.left c.in-Frame.field-0 c.in-Frame.field-1 c.in-Frame.inner
    c.loop-left-test.true in cc
