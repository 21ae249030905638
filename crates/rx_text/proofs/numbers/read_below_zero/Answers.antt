-- The number is 0 or too low, and no other is there.
use Rattle.rx_text.proofs.Integers.{too_low}
use Rattle.rx_text.proofs.numbers.read_below_zero.Goals as goal

pub returns-in-None : goal.returns-in-None
returns-in-None c =
    λ thing left b. too_low c.args.bytes.now c.args.at c.in-Some.ensures c.in-None.ensures b
