-- The steps that settle the state come after the node's.
use Rattle.std.proofs.Common.{◌≡◌, ◌++◌, List, refl, subst, sym}
use Rattle.std.proofs.lemmas.Result.{IfOk-weaker}
use Rattle.rx_row.specs.declared.row.Row.{Row}
use Rattle.rx_search.specs.Calls.{node_of}
use Rattle.rx_search.specs.NodeNodes.{is_closed}
use Rattle.rx_search.specs.declared.node.Node.{Node}
use Rattle.rx_search.specs.Nodes.{IsNode}
use Rattle.rx_search.specs.Search.{settled}
use Rattle.rx_search.proofs.Settled.{settled_node, settled_seen}
use Rattle.rx_search.proofs.plans.settle_node.Goals as goal
use Rattle.rx_deepening.specs.Views.{seen_settled}
use Rattle.rx_deepening.specs.declared.tree.Settled.{Settled}

pub returns-in-Ok-clause-settled : goal.returns-in-Ok-clause-settled
returns-in-Ok-clause-settled g c =
    let parts = c.args.rules.now in
    IfOk-weaker c.settled_by.result _ _
    (λ s same. subst (λ (s : Settled Node (List Row)). seen_settled node_of s ≡
    settled parts (node_of c.args.node)) (sym same)
    (settled_seen parts c.args.node c.settle.new.state c.in-Ok.found c.in-Ok.ensures.settled
    (c.args.node.steps ++ c.in-Ok.found.steps) (is_closed c.settle.new.state.goals) refl refl))
    c.settled_by.ensures

pub returns-in-Ok-clause-node : goal.returns-in-Ok-clause-node
returns-in-Ok-clause-node g c = λ kind goal node.
    let parts = c.args.rules.now in
    IfOk-weaker c.settled_by.result _ _
    (λ s same. subst (λ (s : Settled Node (List Row)). IsNode kind parts goal s.node) (sym same)
    (settled_node parts c.args.node c.settle.new.state c.in-Ok.found c.in-Ok.ensures.settled kind
    goal
    (c.args.node.steps ++ c.in-Ok.found.steps) refl c.in-Ok.ensures.hypotheses node))
    c.settled_by.ensures
