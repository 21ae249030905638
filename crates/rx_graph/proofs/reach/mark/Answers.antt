-- The next target is marked, or was.
use Rattle.std.proofs.Common.{◌∙◌, ◌+◌, ◌++◌, ◌∷◌, [], ap, arith, get_or, subst, sym, take}
use Rattle.rx_graph.specs.Marks.{Marked}
use Rattle.rx_graph.proofs.Elements.{target_among, target_is}
use Rattle.rx_graph.proofs.Marking.{mark_known, mark_new, read_false, read_true}
use Rattle.rx_graph.proofs.reach.mark.Goals.{then-not-index+in_ok-push, else-not-index}
use Rattle.rx_graph.proofs.reach.mark.Goals as goal

pub index-requires : goal.index-requires
index-requires c =
    let h = c.requires (get_or c.args.targets.now c.loop-target.target-index 0)
    (target_among c.args.targets.now c.loop-target.target-index c.loop-target-test.true) in
    omega (arith, h, c.loop-target.invariant.count, c.loop-target.marks.ok.0)

pub index_mut-requires : goal.index_mut-requires
index_mut-requires c =
    let h = c.requires (get_or c.args.targets.now c.loop-target.target-index 0)
    (target_among c.args.targets.now c.loop-target.target-index c.loop-target-test.true) in
    omega (arith, h, c.loop-target.invariant.count, c.loop-target.marks.ok.0)

pub loop-target-preserved : goal.loop-target-preserved
loop-target-preserved c =
    let marks = c.args.marks.now.items in
    let before = c.args.reached.now.items in
    let targets = c.args.targets.now in
    let i = c.loop-target.target-index in
    let t = get_or targets i 0 in
    let after = c.loop-target.marks.items in
    let reached = c.loop-target.reached.items in
    let there = c.loop-target-test.true in
    let h = c.requires t (target_among targets i there) in
    elim c.if-not-index.branch [
      | then-not-index+in_ok-push w ↦
          subst (λ rs. Marked marks before (take (i + 1) targets) c.if-not-index.marks.items rs)
          (sym (ap (λ r. r.items) w.reached-is ∙ w.in_ok-push.ensures.items))
          (subst (λ ms. Marked marks before (take (i + 1) targets) ms (reached ++ t ∷ []))
          (sym (ap (λ m. m.items) w.marks-is))
          (mark_new marks before targets i t after reached there (target_is targets i there)
          c.loop-target.invariant
          (omega (arith, h, c.loop-target.invariant.count))
          (read_false after t c.index.result.now c.index.ensures w.if-not-index.true)))
      | else-not-index w ↦
          subst (λ rs. Marked marks before (take (i + 1) targets) c.if-not-index.marks.items rs)
          (sym (ap (λ r. r.items) w.reached-is))
          (subst (λ ms. Marked marks before (take (i + 1) targets) ms reached)
          (sym (ap (λ m. m.items) w.marks-is))
          (mark_known marks before targets i t after reached there (target_is targets i there)
          c.loop-target.invariant
          (read_true after t c.index.result.now (omega (arith, h, c.loop-target.invariant.count))
          c.index.ensures w.if-not-index.false)))
    ]
