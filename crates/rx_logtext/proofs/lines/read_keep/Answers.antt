use Rattle.rx_logtext.proofs.LineKinds.{no_certs_of_keep}
use Rattle.rx_logtext.proofs.lines.read_keep.Goals as goal

pub returns-in-None : goal.returns-in-None
returns-in-None c =
    (no_certs_of_keep c.args.version c.args.line.now c.args.at c.requires
    (rw c.in-None.is at c.in_ok-certs.ensures))
