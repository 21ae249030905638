-- The exchange of the anchor at hand, or one of a later one.
use Rattle.std.proofs.Common.{◌∙◌, ◌<◌, ◌≤◌, ◌-◌, ◌+◌, sym, subst, length, Some, List, ℕ, drop, get_or, slice_get}
use Rattle.rx_rank.specs.Ranking.{all_exchanges}
use Rattle.rx_rank.proofs.Exchanging.{exchange_here, exchange_later}
use Rattle.rx_rank.proofs.exchange.exchange_at.Goals as goal

pub returns-then-left-others : goal.returns-then-left-others
returns-then-left-others c =
    let m = c.args.members.now in
    let i = c.loop-anchor.anchor-index in
    let n = c.loop-anchor.left in
    let inside : i < length m.anchors.items = subst (λ (hs : List ℕ). i < length hs)
    c.deref-anchor-items.ensures.value c.loop-anchor-test.true in
    let less : n < length m.others.items = subst (λ (gs : List ℕ). n < length gs)
    c.as_slice-others.ensures.value c.if-left-others.true in
    (λ j. Some (record {
      anchor = get_or (c.deref-anchor-items.ensures.value j) i 0;
      other = get_or (c.as_slice-others.ensures.value j) n 0;
    }))
    ∙ sym (exchange_here m.anchors.items m.others.items i inside n less)
    ∙ c.loop-anchor.invariant

pub loop-anchor-preserved : goal.loop-anchor-preserved
loop-anchor-preserved c =
    let m = c.args.members.now in
    let i = c.loop-anchor.anchor-index in
    let n = c.loop-anchor.left in
    let inside : i < length m.anchors.items = subst (λ (hs : List ℕ). i < length hs)
    c.deref-anchor-items.ensures.value c.loop-anchor-test.true in
    let past : length m.others.items ≤ n = subst (λ (gs : List ℕ). length gs ≤ n)
    c.as_slice-others.ensures.value c.if-left-others.false in
    (λ j. slice_get (all_exchanges (record {
      anchors = drop (i + 1) m.anchors.items;
      others = m.others.items;
    })) (n - length (c.as_slice-others.ensures.value j)))
    ∙ exchange_later m.anchors.items m.others.items i inside n past
    ∙ c.loop-anchor.invariant
