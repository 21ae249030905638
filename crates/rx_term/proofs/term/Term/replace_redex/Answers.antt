use Rattle.std.proofs.Common.{◌∙◌, sym}
use Rattle.rx_term.proofs.RedexWalks.{frame_taken}
use Rattle.rx_term.proofs.term.Term.replace_redex.Goals as goal

pub loop-rest-preserved : goal.loop-rest-preserved
loop-rest-preserved c =
    let s = c.loop-rest in
    (frame_taken c.args.inner _ s.upper c.in-Some.below c.turn-over.result s.rest
    c.turn-over.ensures c.in-Some.is (sym c.is_redex.ensures ∙ c.loop-rest-test.true)
    s.invariant).on
