use Rattle.rx_term_words.proofs.ArgumentLaws.{no_closer}
use Rattle.rx_term_words.proofs.arguments.read_closed.Goals as goal

pub returns-in-None : goal.returns-in-None
returns-in-None c =
    let polys = rw c.in-Some.is at c.in_ok-polys.ensures in
    no_closer c.args.bytes.now c.args.at c.requires polys c.in-None.ensures
