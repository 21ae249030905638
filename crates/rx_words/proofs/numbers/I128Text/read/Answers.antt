use Rattle.rx_words.proofs.Once.{integer_reads}
use Rattle.rx_words.proofs.numbers.I128Text.read.Goals as goal

pub returns : goal.returns
returns c =
    rw c.ending_word.ensures (integer_reads c.args.bytes.now c.args.at c.read_integer.result
    c.read_integer.ensures)
