-- One node more is visited.
use Rattle.std.proofs.Common.{◌≡◌, ◌∙◌, ◌++◌, ◌∷◌, [], All, ap, refl, sym, subst, map, length}
use Rattle.std.proofs.lemmas.Iterator.Adapters.{YieldsList-from_vec}
use Rattle.std.proofs.lemmas.Iterator.Consumers.{YieldsList-end, YieldsList-turn}
use Rattle.std.proofs.lemmas.List.Elements.{All-get_or}
use Rattle.std.proofs.lemmas.List.{map-id}
use Rattle.rx_deepening.specs.Keeping.{IsVisited, OfLeaf}
use Rattle.rx_deepening.specs.Views.{IfFound, seen_choice}
use Rattle.rx_deepening.specs.Visits.{visits, visits_of}
use Rattle.rx_deepening.specs.declared.tree.Choice.{Choice}
use Rattle.rx_deepening.proofs.NewLaws.{each_next}
use Rattle.rx_deepening.proofs.VisitedLaws.{visited_none, visited_same, visited_then}
use Rattle.rx_deepening.proofs.resume.visit_each.Goals as goal

pub visit_new-requires-clause-valid : goal.visit_new-requires-clause-valid
visit_new-requires-clause-valid g c =
    let it = c.into_iter-choice-iterator.result in
    let choices = c.args.choices in
    let past = c.loop-choice.yielded in
    let w = g.T.Tree.world c.args.tree.now in
    let of_valid = λ (u : g.T.Tree.World) (k : Choice _). g.T.Tree.valid u k.node in
    let gives = c.into_iter-choice-iterator.ensures.into_iter_gives in
    let items : it.rest.items ≡ choices = cc in
    let count : it.rest.len ≡ length choices = cc in
    let turn = YieldsList-turn (YieldsList-from_vec {s = it} choices items count) past
    c.loop-choice.choice-iterator c.loop-choice.yielded_by
    c.next.result c.next.new.self c.in-Some.choice c.in-Some.is c.next.ensures.steps in
    let one = subst (of_valid w) (sym turn.1)
    (All-get_or (of_valid w) choices (length past) c.in-Some.choice turn.0 c.requires.valid) in
    subst (λ (u : g.T.Tree.World). of_valid u c.in-Some.choice) (sym c.loop-choice.invariant.world)
    one

pub loop-choice-init : goal.loop-choice-init
loop-choice-init g c =
    let w = g.T.Tree.world c.args.tree.now in
    record {
      ready = c.requires.ready;
      world = refl;
      visited = visited_none g.T.Tree.view (g.T.Tree.settled w) (g.T.Tree.menu w) c.args.progress;
      valid = λ h. h;
      leaves = λ most some all. all;
    }

pub loop-choice-preserved : goal.loop-choice-preserved
loop-choice-preserved g c =
    let w = g.T.Tree.world c.args.tree.now in
    let view = g.T.Tree.view in
    let settled = g.T.Tree.settled w in
    let menu = g.T.Tree.menu w in
    let a = c.args in
    let at = c.loop-choice in
    let item = c.in-Some.choice in
    let same = at.invariant.world in
    let made = c.in_ok-progress.progress in
    let longer = c.in_ok-at.ensures in
    let here = subst (λ (u : g.T.Tree.World).
    IsVisited view (g.T.Tree.settled u) (g.T.Tree.menu u) at.progress
    (λ n. visits (g.T.Tree.settled u) (g.T.Tree.menu u) n c.in_ok-at.at (view item.node)) made) same
    c.in_ok-progress.ensures.visited in
    record {
      ready = c.in_ok-progress.ensures.ready;
      world = c.in_ok-progress.ensures.world ∙ same;
      visited = visited_same view settled menu a.progress made
          (λ n. visits_of settled menu n a.path.now (map (seen_choice view) at.yielded) ++
          visits settled menu n c.in_ok-at.at (view item.node))
          (λ n. visits_of settled menu n a.path.now
          (map (seen_choice view) (at.yielded ++ item ∷ [])))
          (λ n. each_next view settled menu n a.path.now c.in_ok-at.at at.yielded item longer)
          (visited_then view settled menu a.progress at.progress made
          (λ n. visits_of settled menu n a.path.now (map (seen_choice view) at.yielded))
          (λ n. visits settled menu n c.in_ok-at.at (view item.node)) at.invariant.visited here);
      valid = λ h. subst (λ (u : g.T.Tree.World). IfFound (g.T.Tree.valid u) made.counter.ended)
          same
          (c.in_ok-progress.ensures.valid (subst
          (λ (u : g.T.Tree.World). IfFound (g.T.Tree.valid u) at.progress.counter.ended)
          (sym same) (at.invariant.valid h)));
      leaves =
          λ most some all. subst (λ (u : g.T.Tree.World).
          All (OfLeaf (g.T.Tree.valid u) most) made.kept) same
          (c.in_ok-progress.ensures.leaves most some
          (subst (λ (u : g.T.Tree.World). All (OfLeaf (g.T.Tree.valid u) most) at.progress.kept)
          (sym same) (at.invariant.leaves most some all)));
    }

pub returns-clause-visited : goal.returns-clause-visited
returns-clause-visited g c =
    let w = g.T.Tree.world c.args.tree.now in
    let view = g.T.Tree.view in
    let settled = g.T.Tree.settled w in
    let menu = g.T.Tree.menu w in
    let a = c.args in
    let it = c.into_iter-choice-iterator.result in
    let gives = c.into_iter-choice-iterator.ensures.into_iter_gives in
    let items : it.rest.items ≡ a.choices = cc in
    let count : it.rest.len ≡ length a.choices = cc in
    let ends = YieldsList-end (YieldsList-from_vec {s = it} a.choices items count)
    c.loop-choice.yielded c.loop-choice.choice-iterator c.loop-choice.yielded_by c.next.result
    c.next.new.self c.in-None.is c.next.ensures.steps in
    let all : c.loop-choice.yielded ≡ a.choices = sym (map-id c.loop-choice.yielded) ∙ ends.0 in
    visited_same view settled menu a.progress c.loop-choice.progress _ _
    (λ n. ap (λ cs. visits_of settled menu n a.path.now (map (seen_choice view) cs)) all)
    c.loop-choice.invariant.visited
