use Rattle.rx_logtext.proofs.LineKinds.{no_symbol_of_cover, no_trees_of_cover}
use Rattle.rx_logtext.proofs.lines.read_cover.Goals as goal

pub returns-in_default : goal.returns-in_default
returns-in_default c = (no_symbol_of_cover c.args.version c.args.line.now c.args.at c.requires
    c.in_default.ensures)

pub returns-in-None : goal.returns-in-None
returns-in-None c =
    (no_trees_of_cover c.args.version c.args.line.now c.args.at c.in-Some.end c.in-Some.symbol
    c.requires
    c.in-Some.ensures
    (rw c.in-None.is at c.in_ok-trees.ensures))
