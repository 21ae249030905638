-- Where all symbols are covered, the rule set is.
use Rattle.rx_cover.proofs.CoveringLaws.{answer_covered}
use Rattle.rx_cover.proofs.covering.covers.Goals as goal

pub returns-clause-covered : goal.returns-clause-covered
returns-clause-covered c =
    answer_covered c.args.rules.now c.args.lists.now c.examine_lists.result c.examine_lists.ensures
