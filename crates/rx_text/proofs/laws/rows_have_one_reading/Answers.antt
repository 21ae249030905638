-- The lemma.
use Rattle.rx_text.proofs.RowTexts.{rows_unambiguous}
use Rattle.rx_text.proofs.laws.rows_have_one_reading.Goals as goal

pub returns : goal.returns
returns c = rows_unambiguous
