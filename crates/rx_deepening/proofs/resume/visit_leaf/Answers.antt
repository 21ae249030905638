-- The leaf is expanded, or the nodes below it are visited.
use Rattle.std.proofs.Common.{◌≡◌, ◌∙◌, ◌<◌, ◌+◌, All, ap, arith, subst, sym}
use Rattle.std.specs.Prelude.{IfOk}
use Rattle.rx_deepening.specs.Keeping.{IsAfterNote, IsVisited, OfLeaf, visits_from}
use Rattle.rx_deepening.specs.Views.{IfFound, seen_menu}
use Rattle.rx_deepening.specs.Visits.{alone}
use Rattle.rx_deepening.specs.declared.tree.Choice.{Choice}
use Rattle.rx_deepening.proofs.ResumeLaws.{visited_made}
use Rattle.rx_deepening.proofs.resume.visit_leaf.Goals as goal

pub returns-then-len-progress-clause-visited : goal.returns-then-len-progress-clause-visited
returns-then-len-progress-clause-visited g c = λ s at.
    let w = g.T.Tree.world c.args.tree.now in
    let view = g.T.Tree.view in
    let a = c.args in
    let path = c.as_slice.result.now in
    let same : path ≡ a.leaf.path = c.as_slice.ensures in
    visited_made view (g.T.Tree.settled w) (g.T.Tree.menu w) a.progress c.expand.result
    (λ n. visits_from (g.T.Tree.settled w) (g.T.Tree.menu w) n path s)
    (λ n. visits_from (g.T.Tree.settled w) (g.T.Tree.menu w) (n + a.leaf.below) a.leaf.path s)
    (λ n. let more : n ≡ n + a.leaf.below = omega arith in λ i.
    visits_from (g.T.Tree.settled w) (g.T.Tree.menu w) (more i) (same i) s)
    (subst (λ (u : g.T.Tree.World). seen_menu view c.in_ok-menu.menu ≡ g.T.Tree.menu u s.node
    → IfOk c.expand.result (IsVisited view (g.T.Tree.settled u) (g.T.Tree.menu u) a.progress
    (λ n. visits_from (g.T.Tree.settled u) (g.T.Tree.menu u) n path s)))
    c.in_ok-menu.ensures.world
    (c.expand.ensures.visited s at.unclosed (subst
    (λ p. IsAfterNote a.progress.counter.note (alone p s)) (sym same) at.noted))
    (c.in_ok-menu.ensures.menu ∙ ap (g.T.Tree.menu w) at.seen))

pub returns-then-len-progress-clause-valid : goal.returns-then-len-progress-clause-valid
returns-then-len-progress-clause-valid g c =
    subst (λ (u : g.T.Tree.World). IfOk c.expand.result (λ p. IfFound (g.T.Tree.valid u)
    p.counter.ended)) c.in_ok-menu.ensures.world c.expand.ensures.valid

pub returns-else-leaf-eq0-clause-valid : goal.returns-else-leaf-eq0-clause-valid
returns-else-leaf-eq0-clause-valid g c =
    subst (λ (u : g.T.Tree.World). IfOk c.walk_below.result (λ p. IfFound (g.T.Tree.valid u)
    p.counter.ended)) c.in_ok-menu.ensures.world c.walk_below.ensures.valid

pub returns-then-len-progress-clause-leaves : goal.returns-then-len-progress-clause-leaves
returns-then-len-progress-clause-leaves g c = λ most below.
    let some : 0 < most + 1 = omega arith in
    subst (λ (u : g.T.Tree.World). All (OfLeaf (g.T.Tree.valid u) (most + 1)) c.args.progress.kept
    → IfOk c.expand.result (λ p. All (OfLeaf (g.T.Tree.valid u) (most + 1)) p.kept))
    c.in_ok-menu.ensures.world
    (c.expand.ensures.leaves (most + 1) some)

pub returns-else-leaf-eq0-clause-visited : goal.returns-else-leaf-eq0-clause-visited
returns-else-leaf-eq0-clause-visited g c = λ s at.
    let view = g.T.Tree.view in
    let a = c.args in
    subst (λ (u : g.T.Tree.World). seen_menu view c.in_ok-menu.menu ≡ g.T.Tree.menu u s.node
    → IfOk c.walk_below.result (IsVisited view (g.T.Tree.settled u) (g.T.Tree.menu u) a.progress
    (λ n. visits_from (g.T.Tree.settled u) (g.T.Tree.menu u) (n + a.leaf.below) a.leaf.path s)))
    c.in_ok-menu.ensures.world (c.walk_below.ensures.visited s at)
    (c.in_ok-menu.ensures.menu ∙ ap (g.T.Tree.menu (g.T.Tree.world a.tree.now)) at.seen)

pub returns-else-leaf-eq0-clause-leaves : goal.returns-else-leaf-eq0-clause-leaves
returns-else-leaf-eq0-clause-leaves g c = λ most below.
    subst (λ (u : g.T.Tree.World). All (OfLeaf (g.T.Tree.valid u) (most + 1)) c.args.progress.kept
    → IfOk c.walk_below.result (λ p. All (OfLeaf (g.T.Tree.valid u) (most + 1)) p.kept))
    c.in_ok-menu.ensures.world
    (c.walk_below.ensures.leaves most below)

pub expand-requires-clause-valid : goal.expand-requires-clause-valid
expand-requires-clause-valid g c =
    subst (λ (u : g.T.Tree.World). All (λ (k : Choice _). g.T.Tree.valid u k.node)
    c.in_ok-menu.menu.choices) (sym c.in_ok-menu.ensures.world) c.in_ok-menu.ensures.valid

pub walk_below-requires-clause-valid : goal.walk_below-requires-clause-valid
walk_below-requires-clause-valid g c =
    subst (λ (u : g.T.Tree.World). All (λ (k : Choice _). g.T.Tree.valid u k.node)
    c.in_ok-menu.menu.choices) (sym c.in_ok-menu.ensures.world) c.in_ok-menu.ensures.valid

pub walk_below-requires-clause-leaf : goal.walk_below-requires-clause-leaf
walk_below-requires-clause-leaf g c =
    subst (λ (u : g.T.Tree.World). g.T.Tree.valid u c.args.leaf.node)
    (sym c.in_ok-menu.ensures.world) c.requires.leaf
