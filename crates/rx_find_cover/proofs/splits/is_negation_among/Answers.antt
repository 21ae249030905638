-- One row of the walk.
use Rattle.std.proofs.Common.{◌∙◌, ap, sym, ◌+◌, ◌||◌, drop, map}
use Rattle.rx_row.specs.Membership.{stands_among}
use Rattle.rx_row.specs.Negation.{negation}
use Rattle.rx_term.proofs.Places.{at_some}
use Rattle.rx_find_cover.proofs.Opening.{next_negation}
use Rattle.rx_find_cover.proofs.splits.is_negation_among.Goals as goal

pub returns-then-is_negation_of : goal.returns-then-is_negation_of
returns-then-is_negation_of c =
    let there = at_some c.args.rows.now c.loop-other.other-index c.other-item.result
    c.other-item.result c.loop-other-test.true c.other-item.is in
    let turn = next_negation c.is_negation_of.result c.args.rows.now c.args.row.now
    c.other-item.result c.loop-other.other-index there c.is_negation_of.ensures in
    sym (turn ∙ ap (λ b. b || stands_among (map negation
    (drop (c.loop-other.other-index + 1) c.args.rows.now)) c.args.row.now)
    c.if-is_negation_of.true)
    ∙ c.loop-other.invariant

pub loop-other-preserved : goal.loop-other-preserved
loop-other-preserved c =
    let there = at_some c.args.rows.now c.loop-other.other-index c.other-item.result
    c.other-item.result c.loop-other-test.true c.other-item.is in
    let turn = next_negation c.is_negation_of.result c.args.rows.now c.args.row.now
    c.other-item.result c.loop-other.other-index there c.is_negation_of.ensures in
    sym (turn ∙ ap (λ b. b || stands_among (map negation
    (drop (c.loop-other.other-index + 1) c.args.rows.now)) c.args.row.now)
    c.if-is_negation_of.false)
    ∙ c.loop-other.invariant
