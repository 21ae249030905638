-- One kept node more is visited.
use Rattle.std.proofs.Common.{◌≡◌, ◌∙◌, ◌+◌, ℕ, [], All, List, length, refl, subst, sym}
use Rattle.std.proofs.lemmas.Iterator.Adapters.{YieldsList-from_vec}
use Rattle.std.proofs.lemmas.Iterator.Consumers.{YieldsList-end, YieldsList-turn}
use Rattle.std.proofs.lemmas.List.Elements.{All-get_or}
use Rattle.std.proofs.lemmas.List.{map-id}
use Rattle.rx_deepening.specs.Keeping.{IsVisited, OfLeaf, StandsForLists, StandsForVisits}
use Rattle.rx_deepening.specs.Views.{IfFound}
use Rattle.rx_deepening.specs.Visits.{Visit}
use Rattle.rx_deepening.specs.declared.kept.Kept.{Kept}
use Rattle.rx_deepening.proofs.KeepingLaws.{all_last}
use Rattle.rx_deepening.proofs.ResumeLaws.{next_visited}
use Rattle.rx_deepening.proofs.VisitedLaws.{visited_none, visited_same}
use Rattle.rx_deepening.proofs.lists.visit_list.Goals as goal
use Rattle.rx_deepening.proofs.lists.visit_list.Goals.{After-drop-node-iterator-2}

pub visit_kept-requires-clause-leaf : goal.visit_kept-requires-clause-leaf
visit_kept-requires-clause-leaf g c =
    let it = c.into_iter-node-iterator.result in
    let nodes = c.args.nodes in
    let past = c.loop-node.yielded in
    let of_leaf = λ (u : g.T.Tree.World). OfLeaf (g.T.Tree.valid u) 4294967295 in
    let gives = c.into_iter-node-iterator.ensures.into_iter_gives in
    let items : it.rest.items ≡ nodes = cc in
    let count : it.rest.len ≡ length nodes = cc in
    let turn = YieldsList-turn (YieldsList-from_vec {s = it} nodes items count) past
    c.loop-node.node-iterator c.loop-node.yielded_by
    c.next.result c.next.new.self c.in-Some.node c.in-Some.is c.next.ensures.steps in
    let all = subst (λ (u : g.T.Tree.World). All (of_leaf u) nodes)
    (sym c.loop-node.invariant.world) c.requires.leaves in
    subst (of_leaf (g.T.Tree.world c.loop-node.tree)) (sym turn.1)
    (All-get_or (of_leaf (g.T.Tree.world c.loop-node.tree)) nodes (length past) c.in-Some.node
    turn.0 all)

pub loop-node-init : goal.loop-node-init
loop-node-init g c =
    let w = g.T.Tree.world c.args.tree.now in
    let view = g.T.Tree.view in
    let settled = g.T.Tree.settled w in
    let menu = g.T.Tree.menu w in
    let start = c.args.progress in
    record {
      ready = c.requires.ready;
      world = refl;
      visited = λ lists none. visited_same view settled menu start start (λ n. []) lists
          (λ n. sym (none n)) (visited_none view settled menu start);
      valid = λ h. h;
      leaves = λ most all before. before;
    }

pub loop-node-preserved : goal.loop-node-preserved
loop-node-preserved g c =
    let w = g.T.Tree.world c.args.tree.now in
    let view = g.T.Tree.view in
    let settled = g.T.Tree.settled w in
    let menu = g.T.Tree.menu w in
    let start = c.args.progress in
    let at = c.loop-node in
    let node = c.in-Some.node in
    let same = at.invariant.world in
    let made = c.in_ok-progress.progress in
    let next = subst (λ (u : g.T.Tree.World).
    (lists : ℕ → List (Visit g.T.Tree.View g.row.T-Note.Denot))
    → StandsForVisits view (g.T.Tree.settled u) (g.T.Tree.menu u) at.progress.counter.note node
    lists
    → IsVisited view (g.T.Tree.settled u) (g.T.Tree.menu u) at.progress lists made) same
    c.in_ok-progress.ensures.visited in
    let leaves = subst (λ (u : g.T.Tree.World). (most : ℕ) → OfLeaf (g.T.Tree.valid u) most node →
    All (OfLeaf (g.T.Tree.valid u) (most + 1)) at.progress.kept
    → All (OfLeaf (g.T.Tree.valid u) (most + 1)) made.kept) same c.in_ok-progress.ensures.leaves in
    record {
      ready = c.in_ok-progress.ensures.ready;
      world = c.in_ok-progress.ensures.world ∙ same;
      visited =
          next_visited view settled menu start at.progress made at.yielded node at.invariant.visited
          next;
      valid = λ h. subst (λ (u : g.T.Tree.World). IfFound (g.T.Tree.valid u) made.counter.ended)
          same
          (c.in_ok-progress.ensures.valid (subst
          (λ (u : g.T.Tree.World). IfFound (g.T.Tree.valid u) at.progress.counter.ended)
          (sym same) (at.invariant.valid h)));
      leaves = λ most all before.
          let (past, one) = all_last (OfLeaf (g.T.Tree.valid w) most) at.yielded node all in
          leaves most one (at.invariant.leaves most past before);
    }

-- all nodes have come
ended : (g : _) (c : After-drop-node-iterator-2 g) → c.loop-node.yielded ≡ c.args.nodes
ended g c =
    let it = c.into_iter-node-iterator.result in
    let gives = c.into_iter-node-iterator.ensures.into_iter_gives in
    let items : it.rest.items ≡ c.args.nodes = cc in
    let count : it.rest.len ≡ length c.args.nodes = cc in
    let all = YieldsList-end (YieldsList-from_vec {s = it} c.args.nodes items count)
    c.loop-node.yielded c.loop-node.node-iterator c.loop-node.yielded_by c.next.result
    c.next.new.self c.in-None.is c.next.ensures.steps in
    sym (map-id c.loop-node.yielded) ∙ all.0

pub returns-clause-visited : goal.returns-clause-visited
returns-clause-visited g c = λ lists stands.
    let w = g.T.Tree.world c.args.tree.now in
    c.loop-node.invariant.visited lists
    (subst (λ (ks : List (Kept _)). StandsForLists g.T.Tree.view (g.T.Tree.settled w)
    (g.T.Tree.menu w) c.args.progress.counter.note ks lists) (sym (ended g c)) stands)

pub returns-clause-leaves : goal.returns-clause-leaves
returns-clause-leaves g c = λ most all before.
    c.loop-node.invariant.leaves most (subst (All
    (OfLeaf (g.T.Tree.valid (g.T.Tree.world c.args.tree.now)) most)) (sym (ended g c)) all)
    before
