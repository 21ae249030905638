use Rattle.rx_words.proofs.Once.{number_reads}
use Rattle.rx_words.proofs.numbers.read_number.Goals as goal

pub returns : goal.returns
returns c =
    rw c.ending_word.ensures (number_reads c.args.bytes.now c.args.at c.read_natural.result
    c.read_natural.ensures)
