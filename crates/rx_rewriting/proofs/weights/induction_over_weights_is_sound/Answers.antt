use Rattle.rx_rewriting.proofs.Induction.{induction}
use Rattle.rx_rewriting.proofs.weights.induction_over_weights_is_sound.Goals as goal

pub returns : goal.returns
returns g c = induction g.P.Property.holds c.requires
