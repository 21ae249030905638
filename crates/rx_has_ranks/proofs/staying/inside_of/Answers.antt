-- One pair more.
use Rattle.std.proofs.Common.{◌∙◌, Bool, ap, sym}
use Rattle.rx_pairs.specs.declared.pair.Pair.{Pair}
use Rattle.rx_rank.specs.Components.{is_inside}
use Rattle.rx_has_ranks.proofs.FilteredPairs.{one_kept_more, one_left_out}
use Rattle.rx_has_ranks.proofs.staying.inside_of.Goals as goal
use Rattle.rx_has_ranks.proofs.staying.inside_of.Goals.{then-is_inside+in_ok-push, else-is_inside}

pub loop-pair-preserved : goal.loop-pair-preserved
loop-pair-preserved c =
    let test : Pair → Bool = is_inside c.args.names.now in
    elim c.if-is_inside.branch [
      | then-is_inside+in_ok-push w ↦
          one_kept_more test c.args.pairs.now c.loop-pair.pair-index c.pair-item.result
          c.loop-pair-test.true c.pair-item.is c.loop-pair.left.items c.if-is_inside.left.items _
          c.loop-pair.invariant (sym c.is_inside.ensures ∙ w.if-is_inside.true)
          (ap (λ v. v.items) w.left-is ∙ w.in_ok-push.ensures.items)
      | else-is_inside w ↦
          one_left_out test c.args.pairs.now c.loop-pair.pair-index c.pair-item.result
          c.loop-pair-test.true c.pair-item.is c.loop-pair.left.items c.if-is_inside.left.items _
          c.loop-pair.invariant (sym c.is_inside.ensures ∙ w.if-is_inside.false)
          (ap (λ v. v.items) w.left-is)
    ]
