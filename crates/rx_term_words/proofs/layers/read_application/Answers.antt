use Rattle.rx_term_words.proofs.LayerLaws.{no_arguments}
use Rattle.rx_term_words.proofs.layers.read_application.Goals as goal

pub returns-in-None : goal.returns-in-None
returns-in-None c =
    let never = rw c.in-None.is at c.in_ok-args.ensures in
    no_arguments c.args.bytes.now c.args.at c.in-Some.ensures never
