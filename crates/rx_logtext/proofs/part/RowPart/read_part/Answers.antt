use Rattle.rx_words.proofs.Once.{row_reads}
use Rattle.rx_logtext.proofs.part.RowPart.read_part.Goals as goal

pub returns : goal.returns
returns c =
    rw c.ending.ensures (row_reads c.args.bytes.now c.args.at c.in_ok-read_row.field-0
    c.in_ok-read_row.ensures)
