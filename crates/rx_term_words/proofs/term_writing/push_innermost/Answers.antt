-- What is under all frames is no frame.
use Rattle.rx_term_words.proofs.TermWritten.{no_frame}
use Rattle.rx_term_words.proofs.term_writing.push_innermost.Goals as goal

pub returns-in-Frame : goal.returns-in-Frame
returns-in-Frame c =
    absurd (no_frame c.args.term.now c.in-Frame.field-0 c.in-Frame.field-1 c.in-Frame.field-2
    c.in-Frame.is c.requires)
