use Rattle.rx_proofs.proofs.Runs.{inside_ends, shown_ends}
use Rattle.rx_proofs.proofs.laws.terms_inside_reach_results.Goals as goal

pub returns-clause-reach : goal.returns-clause-reach
returns-clause-reach c = inside_ends

pub returns-clause-shown : goal.returns-clause-shown
returns-clause-shown c = shown_ends
