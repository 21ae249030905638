-- The leaf is expanded, and then the nodes are visited that its choices lead to.
use Rattle.std.proofs.Common.{sym, subst}
use Rattle.std.proofs.lemmas.Result.{IfOk-weaker}
use Rattle.rx_deepening.specs.Keeping.{IsVisited, OfLeaf, visits_from}
use Rattle.rx_deepening.specs.Views.{IfFound, seen_menu}
use Rattle.rx_deepening.specs.Visits.{visits_of}
use Rattle.rx_deepening.specs.declared.kept.Kept.TheVariants.{Expanded}
use Rattle.rx_deepening.specs.declared.counter.Counter.{Counter}
use Rattle.rx_deepening.proofs.KeepingLaws.{all_push}
use Rattle.rx_deepening.proofs.ResumeLaws.{leaf_expanded}
use Rattle.rx_deepening.proofs.resume.expand.Goals as goal

pub returns-clause-visited : goal.returns-clause-visited
returns-clause-visited g c = λ s unclosed noted is.
    let w = g.T.Tree.world c.args.tree.now in
    let view = g.T.Tree.view in
    let settled = g.T.Tree.settled w in
    let menu = g.T.Tree.menu w in
    let a = c.args in
    let m = seen_menu view a.menu in
    let b = c.in_ok-progress.progress in
    IfOk-weaker c.visit_each.result
    (IsVisited view settled menu b (λ n. visits_of settled menu n a.path.now m.choices))
    (IsVisited view settled menu a.progress (λ n. visits_from settled menu n a.path.now s))
    (λ e below. leaf_expanded view settled menu a.progress b e a.path.now s m c.requires.goes.going
    c.requires.goes.left unclosed noted is c.in_ok-progress.ensures.counter
    c.in_ok-progress.ensures.kept below)
    c.visit_each.ensures.visited

pub returns-clause-valid : goal.returns-clause-valid
returns-clause-valid g c =
    let valid = g.T.Tree.valid (g.T.Tree.world c.args.tree.now) in
    c.visit_each.ensures.valid (subst (λ (t : Counter _ _). IfFound valid t.ended)
    (sym c.in_ok-progress.ensures.counter) tt)

pub returns-clause-leaves : goal.returns-clause-leaves
returns-clause-leaves g c = λ most some all.
    c.visit_each.ensures.leaves most some
    (all_push (OfLeaf (g.T.Tree.valid (g.T.Tree.world c.args.tree.now)) most) c.args.progress.kept
    c.in_ok-progress.progress.kept Expanded
    c.in_ok-progress.ensures.kept all tt)
