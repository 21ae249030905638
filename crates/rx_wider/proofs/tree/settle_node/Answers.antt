-- The steps that settle the state come after the node's.
use Rattle.std.proofs.Common.{◌++◌, refl, subst, sym}
use Rattle.std.proofs.lemmas.Result.{IfOk-weaker}
use Rattle.rx_deepening.specs.declared.tree.Settled.{Settled}
use Rattle.rx_wider.specs.Reached.{IsNode}
use Rattle.rx_wider.specs.declared.node.Node.{Node}
use Rattle.rx_wider.proofs.Settling.{settled_node}
use Rattle.rx_wider.proofs.tree.settle_node.Goals as goal

pub returns-in-Ok-clause-node : goal.returns-in-Ok-clause-node
returns-in-Ok-clause-node g c = λ kind goal node.
    let parts = c.args.explorer.now.setting.now.rules.now in
    IfOk-weaker c.settled_by.result _ _
    (λ s same. subst (λ (s : Settled Node (Unit {0})). IsNode kind parts goal s.node) (sym same)
    (settled_node parts c.args.node c.settle_tasks-found.new.at c.in-Ok.found
    c.in-Ok.ensures.settled kind goal
    (c.args.node.steps ++ c.in-Ok.found.steps) refl c.in-Ok.ensures.hypotheses node))
    c.settled_by.ensures
