-- One symbol more, or none.
use Rattle.std.proofs.Common.{◌≡◌, ◌∙◌, ap, sym, subst, length, Some, None}
use Rattle.std.specs.List.{find}
use Rattle.rx_rank.specs.Answers.{pairs_at}
use Rattle.rx_rank.specs.Choices.{is_ready, order_of, without}
use Rattle.rx_rank.proofs.Walks.{order_next, order_none}
use Rattle.rx_rank.proofs.order.order_of.Goals as goal

pub returns-in-None : goal.returns-in-None
returns-in-None c =
    let pairs = pairs_at c.args.pairs.now in
    let none = subst (λ ws. None ≡ find (is_ready pairs ws) ws) c.as_slice.ensures.value
    c.in-None.ensures in
    order_none (length c.args.symbols.now) c.loop-turn._turn pairs c.loop-turn.waiting.items
    c.loop-turn.order.items (order_of pairs c.args.symbols.now)
    c.loop-turn-test.true c.loop-turn.invariant (sym none)

pub loop-turn-preserved : goal.loop-turn-preserved
loop-turn-preserved c =
    let pairs = pairs_at c.args.pairs.now in
    let some = subst (λ ws. Some c.in-Some.next ≡ find (is_ready pairs ws) ws)
    c.as_slice.ensures.value c.in-Some.ensures in
    order_next (length c.args.symbols.now) c.loop-turn._turn pairs c.loop-turn.waiting.items
    c.loop-turn.order.items (order_of pairs c.args.symbols.now)
    c.loop-turn-test.true c.loop-turn.invariant c.in-Some.next (sym some) c.push.new.self.items
    c.in_ok-waiting-in-Some.waiting.items c.in_ok-push-in-Some.ensures.items
    (c.in_ok-waiting-in-Some.ensures ∙ ap (without c.in-Some.next) c.as_slice-in-Some.ensures.value)
