use Rattle.rx_check.proofs.DomainAnswers.{keeps_judged}
use Rattle.rx_check.proofs.replayer.Replayer.judge_behind.Goals as goal

pub returns-clause-judges : goal.returns-clause-judges
returns-clause-judges c =
    keeps_judged c.args.rules.now c.args.line c.args.self.now c.requires.open
    c.rules-used.result.now c.judge_inside.new.kept c.judge_inside.new.progress
    c.in_ok-self.field-0 c.requires.keeps c.rules-used.ensures c.in_ok-self.ensures.judges
