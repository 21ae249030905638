-- Without an equation there is none that stands alone.
use Rattle.rx_plain.proofs.Booleans.{and_second}
use Rattle.rx_logtext.proofs.steps.read_alone.Goals as goal

pub returns-in-None : goal.returns-in-None
returns-in-None c = λ thing t.
    (rw c.in-None.is at c.in_ok-goal.ensures) thing.0
    (record { in_range = and_second _ _ t.in_range; text = t.text })
