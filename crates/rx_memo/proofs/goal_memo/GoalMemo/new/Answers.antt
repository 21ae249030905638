-- All buckets are empty.
use Rattle.rx_memo.proofs.Buckets.{none_kept}
use Rattle.rx_memo.proofs.goal_memo.GoalMemo.new.Goals as goal

pub returns : goal.returns
returns g c = none_kept c.in_ok-empty_buckets.field-0.items c.in_ok-empty_buckets.ensures
