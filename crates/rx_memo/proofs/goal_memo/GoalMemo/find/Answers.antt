-- What the goal's bucket has.
use Rattle.std.proofs.Common.{subst}
use Rattle.std.specs.Prelude.{IfSome}
use Rattle.std.specs.Option.{option_copied}
use Rattle.rx_memo.specs.Kept.{IsKept}
use Rattle.rx_memo.proofs.Buckets.{found_any}
use Rattle.rx_memo.proofs.goal_memo.GoalMemo.find.Goals as goal

pub returns : goal.returns
returns g c =
    let lookup = c.in_ok-bucket.ensures.lookup in
    let found = option_copied c.find_in.result in
    subst (λ memo. IfSome found (IsKept memo c.args.goal.now)) c.self.view_is
    (found_any c.self.inside.buckets.items c.deref.result.now c.bucket_of.result
    c.in_ok-bucket.bucket.now c.as_slice.result.now c.deref.ensures.value lookup.3.0 lookup.1
    c.as_slice.ensures.value c.args.goal.now found c.find_in.ensures)
