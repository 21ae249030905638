use Rattle.std.proofs.Common.{sym}
use Rattle.rx_logtext.proofs.LineKinds.{no_width_of_ranks}
use Rattle.rx_logtext.proofs.lines.read_ranks.Goals as goal

pub returns-else-is_width : goal.returns-else-is_width
returns-else-is_width c =
    (no_width_of_ranks c.args.version c.args.line.now c.args.at c.in-Some.columns c.requires
    (rw c.in-Some.is at c.in_ok-columns.ensures) (sym c.if-is_width.ensures))
