-- After `-` comes a number below 0, and else one of at least 0.
use Rattle.rx_text.proofs.Integers.{after_sign, no_sign_here}
use Rattle.rx_text.proofs.numbers.read_integer.Goals as goal

pub returns-in-Some : goal.returns-in-Some
returns-in-Some c =
    after_sign c.args.bytes.now c.args.at c.read_below_zero.result c.in-Some.ensures
    c.read_below_zero.ensures

pub returns-in-None : goal.returns-in-None
returns-in-None c =
    no_sign_here c.args.bytes.now c.args.at c.read_at_least_zero.result c.in-None.ensures
    c.read_at_least_zero.ensures
