use Rattle.rx_rulefile.proofs.KindWords.{symbol_number_reads}
use Rattle.rx_rulefile.proofs.line_reading.read_symbol_number.Goals as goal

pub returns : goal.returns
returns c =
    rw c.ending_word.ensures (symbol_number_reads c.args.bytes.now c.args.at c.read_natural.result
    c.read_natural.ensures)
