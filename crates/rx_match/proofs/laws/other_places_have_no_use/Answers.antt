-- The part decides, whatever would set the variables.
use Rattle.rx_match.proofs.UseLaws.{no_use_beside_elsewhere, no_use_elsewhere}
use Rattle.rx_match.proofs.laws.other_places_have_no_use.Goals as goal

pub returns-clause-alone : goal.returns-clause-alone
returns-clause-alone c = no_use_elsewhere

pub returns-clause-beside : goal.returns-clause-beside
returns-clause-beside c = no_use_beside_elsewhere
