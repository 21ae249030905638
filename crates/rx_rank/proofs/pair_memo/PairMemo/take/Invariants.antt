-- The first pairs are taken out.
use Rattle.std.proofs.Common.{◌≡◌, ◌≤◌, length, take}
use Rattle.rx_rank.specs.Answers.{pairs_at}
use Rattle.rx_rank.proofs.pair_memo.PairMemo.take.Given as goal

abbrev pub invariant-loop-pair : goal.invariant-loop-pair
invariant-loop-pair l = record {
  taken : l.taken.items ≡ pairs_at (take l.pair-index l.pairs);
  few : length l.self-inside.known.items ≤ 512;
}
