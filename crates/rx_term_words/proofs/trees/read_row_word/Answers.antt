use Rattle.rx_words.proofs.Once.{row_reads}
use Rattle.rx_term_words.proofs.trees.read_row_word.Goals as goal

pub returns : goal.returns
returns c =
    rw c.ending_word.ensures (row_reads c.args.bytes.now c.args.at c.in_ok-read_row.field-0
    c.in_ok-read_row.ensures)
