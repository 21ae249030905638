-- What the buckets have, all together.
use Rattle.std.proofs.Common.{refl}
use Rattle.rx_memo.specs.Buckets.{all_kept}
use Rattle.rx_memo.proofs.Buckets.{kept_only, kept_stays}
use Rattle.rx_memo.proofs.goal_memo.GoalMemo.keep.Goals as goal

pub returns-clause-only : goal.returns-clause-only
returns-clause-only g c = λ e v.
    kept_only c.self.inside.buckets.items c.push_at.new.buckets.items c.args.self.now
    (all_kept c.push_at.new.buckets.items) c.self.view_is refl e v c.args.goal c.args.value
    (c.push_at.ensures.only e v)

pub returns-clause-stays : goal.returns-clause-stays
returns-clause-stays g c = λ e v.
    kept_stays c.self.inside.buckets.items c.push_at.new.buckets.items c.args.self.now
    (all_kept c.push_at.new.buckets.items) c.self.view_is refl e v (c.push_at.ensures.stays e v)
