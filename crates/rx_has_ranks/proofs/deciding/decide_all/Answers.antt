-- Where the pairs of the rules aren't all listed, nothing is found because of the limits.
use Rattle.std.proofs.Common.{◌∙◌}
use Rattle.rx_has_ranks.proofs.DecidingLaws.{rules_beyond}
use Rattle.rx_has_ranks.proofs.deciding.decide_all.Goals as goal

pub returns-else-listed-clause-tried : goal.returns-else-listed-clause-tried
returns-else-listed-clause-tried g c =
    c.not_listed.ensures
    ∙ rules_beyond c.args.problem.now.kind c.args.problem.now.rules.now c.args.problem.now.hypotheses.now c.args.listed.now
    c.requires.listed
    c.if-listed.false
