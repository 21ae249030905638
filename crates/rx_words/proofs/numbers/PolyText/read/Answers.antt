use Rattle.rx_words.proofs.Once.{poly_reads}
use Rattle.rx_words.proofs.numbers.PolyText.read.Goals as goal

pub returns : goal.returns
returns c =
    rw c.ending_word.ensures (poly_reads c.args.bytes.now c.args.at c.in_ok-read_poly.field-0
    c.in_ok-read_poly.ensures)
