-- One polynomial of the walk.
use Rattle.std.proofs.Common.{◌∙◌, ap, sym, ◌+◌, ◌||◌, drop}
use Rattle.std.specs.List.{list_any}
use Rattle.rx_poly.proofs.Same.{body_eq}
use Rattle.rx_term.proofs.Places.{at_some}
use Rattle.rx_rank.proofs.Walks.{next_same}
use Rattle.rx_rank.proofs.candidates.is_one_of.Goals as goal

pub returns-then-is_same : goal.returns-then-is_same
returns-then-is_same c =
    let there = at_some c.args.polys.now c.loop-other.other-index c.other-item.result
    c.other-item.result c.loop-other-test.true c.other-item.is in
    let turn = next_same c.is_same.result c.args.polys.now c.args.poly.now c.other-item.result
    c.loop-other.other-index there c.is_same.ensures in
    sym (turn ∙ ap (λ b. b || list_any (λ r. body_eq r c.args.poly.now)
    (drop (c.loop-other.other-index + 1) c.args.polys.now)) c.if-is_same.true)
    ∙ c.loop-other.invariant

pub loop-other-preserved : goal.loop-other-preserved
loop-other-preserved c =
    let there = at_some c.args.polys.now c.loop-other.other-index c.other-item.result
    c.other-item.result c.loop-other-test.true c.other-item.is in
    let turn = next_same c.is_same.result c.args.polys.now c.args.poly.now c.other-item.result
    c.loop-other.other-index there c.is_same.ensures in
    sym (turn ∙ ap (λ b. b || list_any (λ r. body_eq r c.args.poly.now)
    (drop (c.loop-other.other-index + 1) c.args.polys.now)) c.if-is_same.false)
    ∙ c.loop-other.invariant
