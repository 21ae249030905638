-- One pair more.
use Rattle.std.proofs.Common.{◌≡◌, ◌∙◌, ◌+◌, ◌++◌, drop, refl, subst, sym}
use Rattle.rx_rank.specs.Answers.{pairs_at, still_open}
use Rattle.rx_has_ranks.proofs.StayingLaws.{open_falls, open_stays}
use Rattle.rx_has_ranks.proofs.staying.still_open.Goals as goal
use Rattle.rx_has_ranks.proofs.staying.still_open.Goals.{then-not-is_fallen+in_ok-push, else-not-is_fallen}

pub loop-at-preserved : goal.loop-at-preserved
loop-at-preserved c =
    let refs = c.args.pairs.now in
    let falls = c.args.falls.now in
    let i = c.loop-at.at in
    let r = c.index-pairs-at.result in
    let there = c.loop-at-test.true in
    let done = pairs_at c.loop-at.left.items in
    let whole = still_open (pairs_at refs) falls in
    elim c.if-not-is_fallen.branch [
      | then-not-is_fallen+in_ok-push w ↦
          subst (λ v. pairs_at v.items ++ still_open (pairs_at (drop (i + 1) refs))
          (drop (i + 1) falls) ≡ whole) (sym w.left-is)
          (open_stays refs falls i r there c.index-pairs-at.is done whole c.loop-at.invariant
          (sym c.is_fallen.ensures ∙ w.if-not-is_fallen.true) c.loop-at.left.items
          w.push.new.self.items refl w.in_ok-push.ensures.items)
      | else-not-is_fallen w ↦
          subst (λ v. pairs_at v.items ++ still_open (pairs_at (drop (i + 1) refs))
          (drop (i + 1) falls) ≡ whole) (sym w.left-is)
          (open_falls refs falls i r there c.index-pairs-at.is done whole c.loop-at.invariant
          (sym c.is_fallen.ensures ∙ w.if-not-is_fallen.false))
    ]
