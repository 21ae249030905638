use Rattle.std.proofs.Common.{sym}
use Rattle.rx_words.proofs.Once.{polynomials_once}
use Rattle.rx_logtext.proofs.LineKinds.{no_columns_of_rank, no_symbol_of_rank, no_width_of_rank}
use Rattle.rx_logtext.proofs.lines.read_rank.Goals as goal

pub returns-in_default : goal.returns-in_default
returns-in_default c = (no_symbol_of_rank c.args.version c.args.line.now c.args.at c.requires
    c.in_default.ensures)

pub returns-else-is_width : goal.returns-else-is_width
returns-else-is_width c =
    (no_width_of_rank c.args.version polynomials_once c.args.line.now c.args.at c.in-Some.end
    c.in-Some.symbol
    c.in-Some-2.rank c.requires c.in-Some.ensures
    (rw c.in-Some-2.is at c.in_ok-rank.ensures) (rw c.len.ensures at (sym c.if-is_width.ensures)))

pub returns-in-None : goal.returns-in-None
returns-in-None c =
    (no_columns_of_rank c.args.version c.args.line.now c.args.at c.in-Some.end c.in-Some.symbol
    c.requires
    c.in-Some.ensures
    (rw c.in-None.is at c.in_ok-rank.ensures))
