-- Lists of two lengths aren't the same.
use Rattle.std.proofs.Common.{arith}
use Rattle.rx_rank.specs.Answers.{pairs_at}
use Rattle.rx_rank.proofs.LentPairs.{lent_count}
use Rattle.rx_has_ranks.proofs.KeptComponents.{lengths_tell}
use Rattle.rx_has_ranks.proofs.components_memo.are_edges.Goals as goal

pub returns-then-edges-pairs : goal.returns-then-edges-pairs
returns-then-edges-pairs c =
    let apart = c.if-edges-pairs.true in
    let many = lent_count c.args.pairs.now in
    lengths_tell c.args.edges.now (pairs_at c.args.pairs.now) (λ same.
    omega (arith, apart, many, same))
