use Rattle.rx_inference.proofs.JudgingLaws.{shown_follow, shown_refuted}
use Rattle.rx_inference.proofs.laws.what_is_shown_follows.Goals as goal

pub returns-clause-rows : goal.returns-clause-rows
returns-clause-rows c = shown_follow

pub returns-clause-refuted : goal.returns-clause-refuted
returns-clause-refuted c = shown_refuted
