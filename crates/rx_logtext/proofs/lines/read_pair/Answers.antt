use Rattle.rx_logtext.proofs.LineKinds.{no_parts_of_pair}
use Rattle.rx_logtext.proofs.lines.read_pair.Goals as goal

pub returns-in-None : goal.returns-in-None
returns-in-None c =
    (no_parts_of_pair c.args.version c.args.line.now c.args.at c.requires
    (rw c.in-None.is at c.in_ok-column.ensures))
