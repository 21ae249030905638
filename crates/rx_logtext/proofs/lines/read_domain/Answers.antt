use Rattle.rx_logtext.proofs.LineKinds.{no_parts_of_domain}
use Rattle.rx_logtext.proofs.lines.read_domain.Goals as goal

pub returns-in-None : goal.returns-in-None
returns-in-None c =
    (no_parts_of_domain c.args.version c.args.line.now c.args.at c.requires
    (rw c.in-None.is at c.in_ok-symbol.ensures))
