use Rattle.rx_cli.proofs.OneReport.{judged_alike, judged_back}
use Rattle.rx_cli.proofs.laws.translated_rules_are_judged_alike.Goals as goal

pub returns-clause-alike : goal.returns-clause-alike
returns-clause-alike c = judged_alike

pub returns-clause-back : goal.returns-clause-back
returns-clause-back c = judged_back
