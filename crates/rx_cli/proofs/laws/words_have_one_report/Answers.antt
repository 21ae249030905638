use Rattle.rx_io.specs.Outside.{Rose}
use Rattle.rx_cli.proofs.OneReport.{one_for_words, one_status, one_verdict_for_words, report_without_faults}
use Rattle.rx_cli.proofs.laws.words_have_one_report.Goals as goal

pub returns-clause-status : goal.returns-clause-status
returns-clause-status c = one_status

pub returns-clause-text : goal.returns-clause-text
returns-clause-text c = one_for_words

pub returns-clause-verdict : goal.returns-clause-verdict
returns-clause-verdict c = one_verdict_for_words

pub returns-clause-any_status : goal.returns-clause-any_status
returns-clause-any_status c = λ names words s u t v a b m n first second p q.
    one_status names words s u t v
    (report_without_faults names (Rose a b) words s t first p)
    (report_without_faults names (Rose m n) words u v second q)

pub returns-clause-any_text : goal.returns-clause-any_text
returns-clause-any_text c = λ names words s u t v a b m n first second p q.
    one_for_words names words s u t v
    (report_without_faults names (Rose a b) words s t first p)
    (report_without_faults names (Rose m n) words u v second q)
