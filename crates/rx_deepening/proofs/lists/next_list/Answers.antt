-- The next round is visited, where visits go on.
use Rattle.std.proofs.Common.{rules, ◌≡◌, ◌+◌, [], All, refl, subst, sym}
use Rattle.std.proofs.lemmas.List.Elements.{All-nil}
use Rattle.std.proofs.lemmas.Result.{IfOk-weaker}
use Rattle.rx_deepening.specs.Keeping.{IsVisited, OfLeaf, StandsForLists}
use Rattle.rx_deepening.specs.Counters.{counted}
use Rattle.rx_deepening.specs.Views.{seen_counter}
use Rattle.rx_deepening.specs.declared.counter.Ended.TheVariants.{Going}
use Rattle.rx_deepening.proofs.CountLaws.{ended-stays}
use Rattle.rx_deepening.proofs.SeenLaws.{ended_seen}
use Rattle.rx_deepening.proofs.lists.next_list.Goals as goal

pub returns-then-is_going-clause-counted : goal.returns-then-is_going-clause-counted
returns-then-is_going-clause-counted g c = λ lists stands.
    let w = g.T.Tree.world c.args.tree.now in
    let view = g.T.Tree.view in
    let a = c.args.progress in
    let goes : a.counter.ended ≡ Going = search rules in
    IfOk-weaker c.visit_list.result
    (IsVisited view (g.T.Tree.settled w) (g.T.Tree.menu w)
    (record { counter = a.counter; kept = c.new.result; room = a.room }) lists)
    (λ p. seen_counter view p.counter ≡ counted (seen_counter view a.counter) (lists 0))
    (λ p visited. visited.counted)
    (c.visit_list.ensures.visited lists (stands goes))

pub returns-then-is_going-clause-stands : goal.returns-then-is_going-clause-stands
returns-then-is_going-clause-stands g c = λ lists stands.
    let w = g.T.Tree.world c.args.tree.now in
    let view = g.T.Tree.view in
    let settled = g.T.Tree.settled w in
    let menu = g.T.Tree.menu w in
    let a = c.args.progress in
    let goes : a.counter.ended ≡ Going = search rules in
    IfOk-weaker c.visit_list.result
    (IsVisited view settled menu (record {
      counter = a.counter;
      kept = c.new.result;
      room = a.room;
    })
    lists)
    (λ p. p.counter.ended ≡ Going → StandsForLists view settled menu p.counter.note p.kept
    (λ n. lists (n + 1)))
    (λ p visited going. visited.keeps (λ n. [])
    (λ _. subst (λ ks. StandsForLists view settled menu a.counter.note ks (λ n. []))
    (sym c.new.ensures) (λ n. refl)) going)
    (c.visit_list.ensures.visited lists (stands goes))

pub returns-then-is_going-clause-leaves : goal.returns-then-is_going-clause-leaves
returns-then-is_going-clause-leaves g c = λ most all.
    let of_leaf = OfLeaf (g.T.Tree.valid (g.T.Tree.world c.args.tree.now)) (most + 1) in
    c.visit_list.ensures.leaves most all (subst (All of_leaf) (sym c.new.ensures) (All-nil of_leaf))

pub returns-else-is_going-clause-counted : goal.returns-else-is_going-clause-counted
returns-else-is_going-clause-counted g c = λ lists stands.
    let a = c.args.progress in
    let stopped : (a.counter.ended ≡ Going → ⊥) = search rules in
    sym (ended-stays (seen_counter g.T.Tree.view a.counter) (lists 0)
    (ended_seen g.T.Tree.view a.counter.ended stopped))
