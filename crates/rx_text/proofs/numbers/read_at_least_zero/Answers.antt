-- The number is too large, and no other is there.
use Rattle.rx_text.proofs.Integers.{too_large}
use Rattle.rx_text.proofs.numbers.read_at_least_zero.Goals as goal

pub returns-in-None : goal.returns-in-None
returns-in-None c =
    λ thing left b. too_large c.args.bytes.now c.args.at c.in-Some.ensures c.in-None.ensures b
