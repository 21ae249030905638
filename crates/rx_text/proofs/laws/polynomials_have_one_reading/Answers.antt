-- The lemma.
use Rattle.rx_text.proofs.Readable.{polynomials_unambiguous}
use Rattle.rx_text.proofs.laws.polynomials_have_one_reading.Goals as goal

pub returns : goal.returns
returns c = polynomials_unambiguous
