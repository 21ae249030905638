-- One pair more.
use Rattle.std.proofs.Common.{◌∙◌, Bool, ap, sym}
use Rattle.rx_pairs.specs.declared.pair.Pair.{Pair}
use Rattle.rx_anchors.specs.Members.{is_member}
use Rattle.rx_has_ranks.proofs.FilteredPairs.{one_kept_more, one_left_out}
use Rattle.rx_has_ranks.proofs.staying.pairs_in.Goals as goal
use Rattle.rx_has_ranks.proofs.staying.pairs_in.Goals.{then-is_member+in_ok-push, else-is_member}

pub loop-pair-preserved : goal.loop-pair-preserved
loop-pair-preserved c =
    let test : Pair → Bool = λ pair. is_member c.args.names.now c.args.name pair.left.0 in
    elim c.if-is_member.branch [
      | then-is_member+in_ok-push w ↦
          one_kept_more test c.args.pairs.now c.loop-pair.pair-index c.pair-item.result
          c.loop-pair-test.true c.pair-item.is c.loop-pair.mine.items c.if-is_member.mine.items _
          c.loop-pair.invariant (sym c.is_member.ensures ∙ w.if-is_member.true)
          (ap (λ v. v.items) w.mine-is ∙ w.in_ok-push.ensures.items)
      | else-is_member w ↦
          one_left_out test c.args.pairs.now c.loop-pair.pair-index c.pair-item.result
          c.loop-pair-test.true c.pair-item.is c.loop-pair.mine.items c.if-is_member.mine.items _
          c.loop-pair.invariant (sym c.is_member.ensures ∙ w.if-is_member.false)
          (ap (λ v. v.items) w.mine-is)
    ]
