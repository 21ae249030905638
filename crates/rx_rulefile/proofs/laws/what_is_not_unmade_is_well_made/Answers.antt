use Rattle.rx_rulefile.proofs.MadeRules.{made}
use Rattle.rx_rulefile.proofs.laws.what_is_not_unmade_is_well_made.Goals as goal

pub returns : goal.returns
returns c = made
