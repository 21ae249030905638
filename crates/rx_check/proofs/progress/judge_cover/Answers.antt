use Rattle.rx_check.proofs.LineAnswers.{cover_answers}
use Rattle.rx_check.proofs.progress.judge_cover.Goals as goal

pub returns-in-InCovers : goal.returns-in-InCovers
returns-in-InCovers c = λ progress.
    cover_answers c.args.rules.now c.args.place c.in-InCovers.next c.args.trees.now progress
    c.check_cover.result c.failure_of.result
    c.in-InCovers.is c.check_cover.ensures c.failure_of.ensures.ok
