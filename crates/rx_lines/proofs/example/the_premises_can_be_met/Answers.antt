use Rattle.rx_lines.proofs.ExampleLaws.{bad, is_line_order, missing, whole}
use Rattle.rx_lines.proofs.example.the_premises_can_be_met.Goals as goal

pub returns-clause-met : goal.returns-clause-met
returns-clause-met c = is_line_order

pub returns-clause-whole : goal.returns-clause-whole
returns-clause-whole c = whole

pub returns-clause-missing : goal.returns-clause-missing
returns-clause-missing c = missing

pub returns-clause-bad : goal.returns-clause-bad
returns-clause-bad c = bad
