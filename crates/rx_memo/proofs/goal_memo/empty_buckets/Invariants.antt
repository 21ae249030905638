-- Each bucket so far is empty.
use Rattle.std.specs.Prelude.{All}
use Rattle.rx_memo.specs.Buckets.{IsEmpty}
use Rattle.rx_memo.proofs.goal_memo.empty_buckets.Given as goal

abbrev pub invariant-loop-bucket : goal.invariant-loop-bucket
invariant-loop-bucket g l = All (IsEmpty {V = g.row.V.Denot}) l.buckets.items
