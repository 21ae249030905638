-- The node that is found is closed.
use Rattle.std.proofs.Common.{◌∙◌, ap}
use Rattle.rx_inference.specs.States.{State}
use Rattle.rx_wider.proofs.Closing.{closed_there}
use Rattle.rx_wider.proofs.search.visit_behind.Goals as goal

pub returns-clause-closed : goal.returns-clause-closed
returns-clause-closed g c =
    let (goal, is) = c.requires.begun in
    closed_there c.args.setting.now.kind c.args.setting.now.rules.now c.args.from.now goal
    c.args.begun is
    c.in_ok-start.start c.in_ok-start.ensures c.args.reach.depth c.args.reach.budget
    c.hypotheses.result.now
    (c.hypotheses.ensures ∙ ap (λ (s : State). s.hypotheses) c.in_ok-lemmas.ensures)
    c.in_ok-outcome.outcome c.in_ok-outcome.ensures.outcome c.closed_node.result
    c.closed_node.ensures c.in_ok-outcome.ensures.node
