use Rattle.rx_logtext.proofs.Gathered.{given_by_lines}
use Rattle.rx_logtext.proofs.laws.no_two_logs_have_the_same_lines.Goals as goal

pub returns : goal.returns
returns c = given_by_lines
