-- What is left decides.
use Rattle.std.proofs.Common.{◌≡◌, drop, length}
use Rattle.rx_rank.specs.Answers.{pairs_at}
use Rattle.rx_has_ranks.specs.KnownComponents.{same_edges}
use Rattle.rx_has_ranks.proofs.components_memo.are_edges.Given as goal

abbrev pub invariant-loop-at : goal.invariant-loop-at
invariant-loop-at l = record {
  decides : same_edges (drop l.at l.edges) (pairs_at (drop l.at l.pairs)) ≡
      same_edges l.edges (pairs_at l.pairs);
  count : length l.edges ≡ length l.pairs;
}
