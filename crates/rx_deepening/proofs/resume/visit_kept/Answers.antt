-- A kept node is visited as it represents visits, unless they have ended.
use Rattle.std.proofs.Common.{rules, ◌≡◌, ◌++◌, ◌∷◌, [], ◌+◌, ◌-◌, All, None, subst, sym}
use Rattle.std.proofs.lemmas.Result.{IfOk-weaker}
use Rattle.rx_deepening.specs.Keeping.{OfLeaf, StandsForVisits, visits_from}
use Rattle.rx_deepening.specs.Counters.{GoesOn, visited_open}
use Rattle.rx_deepening.specs.Views.{IfFound}
use Rattle.rx_deepening.specs.declared.kept.Kept.{Kept}
use Rattle.rx_deepening.specs.declared.kept.Kept.TheVariants.{Expanded}
use Rattle.rx_deepening.specs.declared.counter.Counter.{Counter}
use Rattle.rx_deepening.proofs.KeepingLaws.{all_push}
use Rattle.rx_deepening.proofs.ResumeLaws.{expanded_made, visited_made}
use Rattle.rx_deepening.proofs.StopLaws.{stopped_found, stopped_kept}
use Rattle.rx_deepening.proofs.resume.visit_kept.Goals as goal

pub returns-then-not-may_visit-clause-visited : goal.returns-then-not-may_visit-clause-visited
returns-then-not-may_visit-clause-visited g c = λ lists stands.
    let w = g.T.Tree.world c.args.tree.now in
    let a = c.args in
    let not : (GoesOn a.progress.counter → ⊥) = search rules in
    stopped_kept g.T.Tree.view (g.T.Tree.settled w) (g.T.Tree.menu w) a.progress
    c.stop_visits.result a.node lists stands not c.stop_visits.ensures.counter

pub returns-then-not-may_visit-clause-valid : goal.returns-then-not-may_visit-clause-valid
returns-then-not-may_visit-clause-valid g c = λ found.
    stopped_found (g.T.Tree.valid (g.T.Tree.world c.args.tree.now)) c.args.progress.counter
    c.stop_visits.result.counter c.stop_visits.ensures.counter found

pub returns-then-not-may_visit-clause-leaves : goal.returns-then-not-may_visit-clause-leaves
returns-then-not-may_visit-clause-leaves g c = λ most one all.
    subst (All (OfLeaf (g.T.Tree.valid (g.T.Tree.world c.args.tree.now)) (most + 1)))
    (sym c.stop_visits.ensures.kept) all

pub returns-in-Expanded-clause-visited : goal.returns-in-Expanded-clause-visited
returns-in-Expanded-clause-visited g c = λ lists stands.
    let w = g.T.Tree.world c.args.tree.now in
    let view = g.T.Tree.view in
    let a = c.args in
    let goes : GoesOn a.progress.counter = search rules in
    expanded_made view (g.T.Tree.settled w) (g.T.Tree.menu w) a.progress c.visit_expanded.result
    lists goes.going goes.left
    (subst (λ (k : Kept _). StandsForVisits view (g.T.Tree.settled w) (g.T.Tree.menu w)
    a.progress.counter.note k lists) c.in-Expanded.is stands)
    c.visit_expanded.ensures.counter c.visit_expanded.ensures.kept

pub returns-in-Frontier-clause-visited : goal.returns-in-Frontier-clause-visited
returns-in-Frontier-clause-visited g c = λ lists stands.
    let w = g.T.Tree.world c.args.tree.now in
    let view = g.T.Tree.view in
    let settled = g.T.Tree.settled w in
    let menu = g.T.Tree.menu w in
    let a = c.args in
    let leaf = c.in-Frontier.leaf in
    let (s, at, are) = subst (λ (k : Kept _).
    StandsForVisits view settled menu a.progress.counter.note k lists) c.in-Frontier.is stands in
    visited_made view settled menu a.progress c.visit_leaf.result
    (λ n. visits_from settled menu (n + leaf.below) leaf.path s) lists (λ n. sym (are n))
    (c.visit_leaf.ensures.visited s at)

pub returns-in-Frontier-clause-leaves : goal.returns-in-Frontier-clause-leaves
returns-in-Frontier-clause-leaves g c = λ most one all.
    let of_leaf = subst (OfLeaf (g.T.Tree.valid (g.T.Tree.world c.args.tree.now)) most)
    c.in-Frontier.is one in
    c.visit_leaf.ensures.leaves most of_leaf.1 all

pub visit_leaf-requires-clause-leaf : goal.visit_leaf-requires-clause-leaf
visit_leaf-requires-clause-leaf g c =
    (subst (OfLeaf (g.T.Tree.valid (g.T.Tree.world c.args.tree.now)) 4294967295)
    c.in-Frontier.is c.requires.leaf).0

pub visit_leaf-requires-clause-below : goal.visit_leaf-requires-clause-below
visit_leaf-requires-clause-below g c =
    (subst (OfLeaf (g.T.Tree.valid (g.T.Tree.world c.args.tree.now)) 4294967295)
    c.in-Frontier.is c.requires.leaf).1

pub returns-in-Expanded-clause-valid : goal.returns-in-Expanded-clause-valid
returns-in-Expanded-clause-valid g c = λ _.
    let valid = g.T.Tree.valid (g.T.Tree.world c.args.tree.now) in
    let a = c.args.progress.counter in
    IfOk-weaker c.visit_expanded.result
    (λ p. p.counter ≡ visited_open (a.left - 1) a [] None) (λ p. IfFound valid p.counter.ended)
    (λ p is. subst (λ (t : Counter _ _). IfFound valid t.ended) (sym is) tt)
    c.visit_expanded.ensures.counter

pub returns-in-Expanded-clause-leaves : goal.returns-in-Expanded-clause-leaves
returns-in-Expanded-clause-leaves g c = λ most one all.
    let of_leaf = OfLeaf (g.T.Tree.valid (g.T.Tree.world c.args.tree.now)) (most + 1) in
    let kept = c.args.progress.kept in
    IfOk-weaker c.visit_expanded.result (λ p. p.kept ≡ kept ++ Expanded ∷ [])
    (λ p. All of_leaf p.kept)
    (λ p same. all_push of_leaf kept p.kept Expanded same all tt) c.visit_expanded.ensures.kept

pub returns-in-Frontier-clause-valid : goal.returns-in-Frontier-clause-valid
returns-in-Frontier-clause-valid g c = λ _. c.visit_leaf.ensures.valid

pub visit_leaf-requires-clause-goes : goal.visit_leaf-requires-clause-goes
visit_leaf-requires-clause-goes g c = search rules

pub visit_expanded-requires : goal.visit_expanded-requires
visit_expanded-requires g c =
    let goes : GoesOn c.args.progress.counter = search rules in goes.left
