-- The visit is counted with what was noted at the choices, and these are the tree's.
use Rattle.std.proofs.Common.{Ok, ap}
use Rattle.rx_deepening.specs.declared.tree.Menu.{Menu}
use Rattle.rx_deepening.proofs.StepLaws.{choice_counted, step_found}
use Rattle.rx_deepening.proofs.walk.choose.Goals as goal

pub returns-clause-counted : goal.returns-clause-counted
returns-clause-counted g c =
    choice_counted g.T.Tree.view c.args.counter c.in_ok-counter.counter c.args.path.now
    c.args.settled
    c.in_ok-menu.menu _ c.in_ok-menu.ensures.menu c.in_ok-counter.ensures

pub returns-clause-choices : goal.returns-clause-choices
returns-clause-choices g c =
    ap (λ (m : Menu g.T.Tree.View _). m.choices) c.in_ok-menu.ensures.menu

pub returns-clause-found : goal.returns-clause-found
returns-clause-found g c =
    step_found g.T.Tree.view {E = Unit {0}}
    (g.T.Tree.valid (g.T.Tree.world c.args.tree.now)) c.args.counter c.args.path.now c.args.settled
    c.in_ok-menu.menu.note (Ok c.in_ok-counter.counter) c.requires.valid c.in_ok-counter.ensures
