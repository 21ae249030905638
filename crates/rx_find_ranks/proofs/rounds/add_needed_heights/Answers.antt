-- Without an open pair the columns stay, and otherwise there is one more.
use Rattle.std.proofs.lemmas.Result.{IfOk-weaker}
use Rattle.rx_find_ranks.proofs.RoundLaws.{none_inside, one_column, one_longer, same_columns, same_length}
use Rattle.rx_find_ranks.proofs.rounds.add_needed_heights.Goals as goal

pub returns-then-is_done-clause-pairs : goal.returns-then-is_done-clause-pairs
returns-then-is_done-clause-pairs c =
    none_inside c.args.symbols c.args.progress.entries.items
    (c.is_done.ensures.0 c.if-is_done.true)

pub returns-then-is_done-clause-grown : goal.returns-then-is_done-clause-grown
returns-then-is_done-clause-grown c = λ infos size. same_columns infos c.args.progress

pub returns-clause-grown : goal.returns-clause-grown
returns-clause-grown c =
    IfOk-weaker c.add_heights.result _ _
    (λ after grown infos size. one_column infos c.args.progress after (grown infos size))
    c.add_heights.ensures.grown

pub returns-then-is_done-clause-more : goal.returns-then-is_done-clause-more
returns-then-is_done-clause-more c = same_length c.args.progress c.args.left c.if-left-eq0.true

pub returns-clause-more : goal.returns-clause-more
returns-clause-more c =
    IfOk-weaker c.add_heights.result _ _ (one_longer c.args.progress c.args.left)
    c.add_heights.ensures.count
