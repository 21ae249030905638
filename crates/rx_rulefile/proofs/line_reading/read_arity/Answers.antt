use Rattle.rx_rulefile.proofs.KindWords.{arity_reads}
use Rattle.rx_rulefile.proofs.line_reading.read_arity.Goals as goal

pub returns : goal.returns
returns c =
    rw c.ending_word.ensures (arity_reads c.args.bytes.now c.args.at c.read_natural.result
    c.read_natural.ensures)
