-- One more target.
use Rattle.std.proofs.Common.{◌+◌, arith, get_or, inl, inr, subst, sym, take}
use Rattle.rx_graph.specs.Ranked.{Raised}
use Rattle.rx_graph.proofs.Elements.{target_among, target_is}
use Rattle.rx_graph.proofs.HeightLaws.{raise_known, raise_new}
use Rattle.rx_graph.proofs.heights.raise.Goals.{then-other-own+then-heights-other, else-other-own, else-other-own-via-then-other-own+else-heights-other, else-other-own-via-else-other-own}
use Rattle.rx_graph.proofs.heights.raise.Goals as goal

pub bounds-labels-target : goal.bounds-labels-target
bounds-labels-target c =
    c.requires.targets (get_or c.args.targets.now c.loop-target.target-index 0)
    (target_among c.args.targets.now c.loop-target.target-index c.loop-target-test.true)

pub loop-target-preserved : goal.loop-target-preserved
loop-target-preserved c =
    let targets = c.args.targets.now in
    let labels = c.args.labels.now in
    let own = c.args.own in
    let heights = c.args.heights.now in
    let now = c.loop-target.heights in
    let i = c.loop-target.target-index in
    let t = get_or targets i 0 in
    let there = c.loop-target-test.true in
    let inv = c.loop-target.invariant in
    let size = inv.count in
    let within = c.requires.own in
    elim c.if-other-own.branch [
      | then-other-own+then-heights-other w ↦
          subst (Raised (take (i + 1) targets) labels own heights) (sym w.heights-is)
          (raise_new targets labels own heights now i t there (target_is targets i there) inv
          (omega (arith, size, within)) w.if-other-own.true w.if-heights-other.true)
      | else-other-own w ↦
          subst (Raised (take (i + 1) targets) labels own heights) (sym w.heights-is)
          (raise_known targets labels own heights now i t there (target_is targets i there) inv
          (elim w.else-other-own.branch [
            | else-other-own-via-then-other-own+else-heights-other x ↦ inr x.if-heights-other.false
            | else-other-own-via-else-other-own x ↦ inl x.if-other-own.false
          ]))
    ]
