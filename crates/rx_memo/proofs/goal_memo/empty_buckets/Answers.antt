-- One empty bucket more.
use Rattle.std.proofs.Common.{subst, sym}
use Rattle.std.specs.Prelude.{All}
use Rattle.std.proofs.lemmas.List.Elements.{All-nil}
use Rattle.rx_memo.specs.Buckets.{IsEmpty}
use Rattle.rx_memo.proofs.Buckets.{empty_more}
use Rattle.rx_memo.proofs.goal_memo.empty_buckets.Goals as goal

pub loop-bucket-init : goal.loop-bucket-init
loop-bucket-init g c =
    subst (All (IsEmpty {V = g.row.V.Denot})) (sym c.in_ok-buckets.ensures.items)
    (All-nil (IsEmpty {V = g.row.V.Denot}))

pub loop-bucket-preserved : goal.loop-bucket-preserved
loop-bucket-preserved g c =
    empty_more c.loop-bucket.buckets.items c.push.new.self.items c.new.result c.new.ensures.items
    c.in_ok-push.ensures.items c.loop-bucket.invariant
