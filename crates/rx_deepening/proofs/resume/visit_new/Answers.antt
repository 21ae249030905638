-- A new node is visited once, unless visits have ended.
use Rattle.std.proofs.Common.{rules, All, sym, subst}
use Rattle.rx_deepening.specs.Keeping.{OfLeaf}
use Rattle.rx_deepening.specs.Counters.{GoesOn}
use Rattle.rx_deepening.proofs.NewLaws.{new_found, new_leaves, new_visited}
use Rattle.rx_deepening.proofs.StopLaws.{stopped_found, stopped_new}
use Rattle.rx_deepening.proofs.resume.visit_new.Goals as goal

pub returns-then-not-may_visit-clause-visited : goal.returns-then-not-may_visit-clause-visited
returns-then-not-may_visit-clause-visited g c =
    let w = g.T.Tree.world c.args.tree.now in
    let a = c.args in
    let not : (GoesOn a.progress.counter → ⊥) = search rules in
    stopped_new g.T.Tree.view (g.T.Tree.settled w) (g.T.Tree.menu w) a.progress
    c.stop_visits.result a.path (g.T.Tree.view a.node) not c.stop_visits.ensures.counter

pub returns-then-not-may_visit-clause-valid : goal.returns-then-not-may_visit-clause-valid
returns-then-not-may_visit-clause-valid g c = λ found.
    stopped_found (g.T.Tree.valid (g.T.Tree.world c.args.tree.now)) c.args.progress.counter
    c.stop_visits.result.counter c.stop_visits.ensures.counter found

pub returns-then-not-may_visit-clause-leaves : goal.returns-then-not-may_visit-clause-leaves
returns-then-not-may_visit-clause-leaves g c = λ most some all.
    subst (All (OfLeaf (g.T.Tree.valid (g.T.Tree.world c.args.tree.now)) most))
    (sym c.stop_visits.ensures.kept) all

pub returns-clause-visited : goal.returns-clause-visited
returns-clause-visited g c =
    let w = g.T.Tree.world c.args.tree.now in
    let a = c.args in
    let goes : GoesOn a.progress.counter = search rules in
    new_visited g.T.Tree.view (g.T.Tree.settled w) (g.T.Tree.menu w) a.progress
    c.keep_settled.result a.path (g.T.Tree.view a.node) c.in_ok-settled.settled
    c.in_ok-settled.ensures.settled goes c.keep_settled.ensures.counter
    c.keep_settled.ensures.unclosed

pub returns-clause-valid : goal.returns-clause-valid
returns-clause-valid g c = λ found.
    new_found c.args.progress c.keep_settled.result c.args.path c.in_ok-settled.settled
    (g.T.Tree.valid (g.T.Tree.world c.args.tree.now)) c.in_ok-settled.ensures.valid
    c.keep_settled.ensures.counter

pub returns-clause-leaves : goal.returns-clause-leaves
returns-clause-leaves g c = λ most some all.
    new_leaves c.args.progress c.keep_settled.result c.args.path c.in_ok-settled.settled
    (OfLeaf (g.T.Tree.valid (g.T.Tree.world c.args.tree.now)) most) all
    (c.in_ok-settled.ensures.valid, some) c.keep_settled.ensures.closed
    c.keep_settled.ensures.unclosed
