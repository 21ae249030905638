-- The lemma.
use Rattle.rx_text.proofs.Integers.{integers_unambiguous}
use Rattle.rx_text.proofs.laws.integers_have_one_reading.Goals as goal

pub returns : goal.returns
returns c = integers_unambiguous
