use Rattle.rx_logtext.proofs.OneReading.{never_both, one_bad_line, one_log}
use Rattle.rx_logtext.proofs.laws.a_text_has_one_reading.Goals as goal

pub returns-clause-one_log : goal.returns-clause-one_log
returns-clause-one_log c = one_log

pub returns-clause-never_both : goal.returns-clause-never_both
returns-clause-never_both c = never_both

pub returns-clause-one_bad_line : goal.returns-clause-one_bad_line
returns-clause-one_bad_line c = one_bad_line
