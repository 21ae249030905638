-- What is kept, and what is left of the pairs.
use Rattle.std.proofs.Common.{◌≡◌, ◌≤◌, ◌+◌, length, min}
use Rattle.rx_rank.proofs.pair_memo.PairMemo.put_back.Given as goal

abbrev pub invariant-loop-pair : goal.invariant-loop-pair
invariant-loop-pair l = record {
  count : min 512 (length l.self-inside.known.items + length l.pair-iterator.rest.items) ≡
      min 512 (l.fn.self + length l.fn.pairs.items);
  few : length l.self-inside.known.items ≤ 512;
}
