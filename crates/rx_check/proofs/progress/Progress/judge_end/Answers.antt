use Rattle.std.proofs.Common.{◌<◌, ◌≤◌, refl, subst}
use Rattle.rx_check.proofs.LineTurns.{end_beyond, end_judged, end_left, end_unranked}
use Rattle.rx_check.proofs.progress.Progress.judge_end.Goals as goal

pub returns-in-Some : goal.returns-in-Some
returns-in-Some c =
    end_unranked c.args.rules.now c.args.place c.args.self.now c.args.self.now c.in-Some.end
    (record { ranks = c.in-Some.ensures.ranks; pairs = c.in-Some.ensures.pairs })

pub returns-then-self-len : goal.returns-then-self-len
returns-then-self-len c =
    end_left c.args.rules.now c.args.place c.args.self.now c.args.self.now
    (record { ranks = c.in_default.ensures.ranks; pairs = λ _. refl })
    (subst (λ n. c.args.self.now.lower < n) c.len.ensures c.if-self-len.true)

pub returns-then-not-self : goal.returns-then-not-self
returns-then-not-self c =
    end_beyond c.args.rules.now c.args.place c.args.self.now c.args.self.now
    (record { ranks = c.in_default.ensures.ranks; pairs = λ _. refl })
    (subst (λ n. n ≤ c.args.self.now.lower) c.len.ensures c.if-self-len.false) c.if-not-self.true

pub returns : goal.returns
returns c =
    end_judged c.args.rules.now c.args.place c.args.self.now
    (record { ranks = c.in_default.ensures.ranks; pairs = λ _. refl })
    (subst (λ n. n ≤ c.args.self.now.lower) c.len.ensures c.if-self-len.false) c.if-not-self.false
