use Rattle.rx_words.proofs.Once.{poly_reads}
use Rattle.rx_logtext.proofs.part.PolyPart.read_part.Goals as goal

pub returns : goal.returns
returns c =
    rw c.ending.ensures (poly_reads c.args.bytes.now c.args.at c.in_ok-read_poly.field-0
    c.in_ok-read_poly.ensures)
