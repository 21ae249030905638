-- One more in its bucket, or none.
use Rattle.std.proofs.Common.{◌<◌, arith, length}
use Rattle.rx_memo.proofs.Buckets.{put_in, stays_in}
use Rattle.rx_memo.proofs.goal_memo.push_at.Goals as goal

pub returns-then-at-len-clause-only : goal.returns-then-at-len-clause-only
returns-then-at-len-clause-only g c = λ e v any.
    let less = c.if-at-len.true in
    let count = c.len.ensures in
    let inner : c.args.at < length c.args.buckets.now.items = omega (arith, less, count) in
    put_in c.args.buckets.now.items c.args.at c.index_mut.result.now c.push_in.new.bucket inner
    c.index_mut.ensures.value c.args.goal c.args.value e v (c.push_in.ensures.only e v) any

pub returns-then-at-len-clause-stays : goal.returns-then-at-len-clause-stays
returns-then-at-len-clause-stays g c = λ e v any.
    let less = c.if-at-len.true in
    let count = c.len.ensures in
    let inner : c.args.at < length c.args.buckets.now.items = omega (arith, less, count) in
    stays_in c.args.buckets.now.items c.args.at c.index_mut.result.now c.push_in.new.bucket inner
    c.index_mut.ensures.value c.args.goal c.args.value e v (c.push_in.ensures.stays e v) any
