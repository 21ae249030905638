use Rattle.rx_term_words.proofs.FrameLaws.{no_layer}
use Rattle.rx_term_words.proofs.terms.read_open.Goals as goal

pub returns-in_default : goal.returns-in_default
returns-in_default c =
    let never = rw c.in_default.is at c.in_ok-layer.ensures in
    no_layer c.args.bytes.now c.args.at c.loop-frames.invariant never
