use Rattle.std.proofs.Common.{refl}
use Rattle.rx_check.proofs.LineAnswers.{pair_answers}
use Rattle.rx_check.proofs.LineTurns.{pair_unranked}
use Rattle.rx_check.proofs.progress.Progress.judge_pair.Goals as goal

pub returns-in-Some-clause-judges : goal.returns-in-Some-clause-judges
returns-in-Some-clause-judges c =
    pair_unranked c.args.rules.now c.args.place c.args.cert.now c.args.self.now c.args.self.now
    c.in-Some.end
    (record { ranks = c.in-Some.ensures.ranks; pairs = c.in-Some.ensures.pairs })

pub returns-clause-judges : goal.returns-clause-judges
returns-clause-judges c =
    pair_answers c.args.rules.now c.args.place c.args.cert.now c.args.self.now c.in_ok-next.next
    c.in_ok-failure.failure
    (record { ranks = c.in_default.ensures.ranks; pairs = λ _. refl }) c.in_ok-next.ensures
    c.check_pair-outcome.result c.in_ok-failure.ensures.ok c.check_pair-outcome.ensures
