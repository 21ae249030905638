-- The first closed node has no goals left, and its log is the answer.
use Rattle.std.proofs.Common.{◌≡◌, ◌∙◌, ap, subst, sym}
use Rattle.rx_log.specs.Acceptance.{Accepted, verdict_over}
use Rattle.rx_log.specs.declared.log.Log.{Log}
use Rattle.rx_find_ranks.specs.Found.{HasColumns}
use Rattle.rx_search.specs.Nodes.{IsNode}
use Rattle.rx_search.specs.Search.{start}
use Rattle.rx_search.proofs.Closing.{closed_goals, closed_node, closed_steps, node_proved}
use Rattle.rx_search.proofs.search.search_over.Goals as goal

pub log_of-requires-clause-proved : goal.log_of-requires-clause-proved
log_of-requires-clause-proved g c =
    let s = c.args.space.now in
    let task = c.args.task.now in (
      task.goal.now,
      node_proved s.kind s.rules.now task.goal.now c.in-Closed.node c.as_slice-steps.result.now
          c.hypotheses.result.now
          (closed_node (IsNode s.kind s.rules.now task.goal.now) c.in_ok-outcome.outcome
          c.in-Closed.node c.in-Closed.is c.in_ok-outcome.ensures.node)
          (closed_goals s.kind s.rules.now task.depth task.budget (start task.goal.now)
          c.in_ok-outcome.outcome c.in-Closed.node c.in_ok-outcome.ensures.outcome c.in-Closed.is)
          c.as_slice-steps.ensures c.hypotheses.ensures,
    )

pub returns-in-Ok-clause-steps : goal.returns-in-Ok-clause-steps
returns-in-Ok-clause-steps g c =
    let s = c.args.space.now in
    let task = c.args.task.now in
    closed_steps s.kind s.rules.now task.depth task.budget (start task.goal.now)
    c.in_ok-outcome.outcome c.in-Closed.node c.dropped.result.steps
    c.in_ok-outcome.ensures.outcome c.in-Closed.is
    (ap (λ (log : Log). log.steps) c.dropped.ensures ∙ c.in-Ok.ensures.steps ∙
    c.as_slice-steps.ensures)

pub returns-in-Ok-clause-accepted : goal.returns-in-Ok-clause-accepted
returns-in-Ok-clause-accepted g c =
    let s = c.args.space.now in
    let task = c.args.task.now in
    subst (λ (log : Log). verdict_over s.rules.now task.goal.now log ≡ Accepted)
    (sym c.dropped.ensures)
    (c.in-Ok.ensures.accepted task.goal.now
    (node_proved s.kind s.rules.now task.goal.now c.in-Closed.node c.as_slice-steps.result.now
    c.hypotheses.result.now
    (closed_node (IsNode s.kind s.rules.now task.goal.now) c.in_ok-outcome.outcome
    c.in-Closed.node c.in-Closed.is c.in_ok-outcome.ensures.node)
    (closed_goals s.kind s.rules.now task.depth task.budget (start task.goal.now)
    c.in_ok-outcome.outcome c.in-Closed.node c.in_ok-outcome.ensures.outcome c.in-Closed.is)
    c.as_slice-steps.ensures c.hypotheses.ensures))

pub returns-in-Ok-clause-columns : goal.returns-in-Ok-clause-columns
returns-in-Ok-clause-columns g c =
    subst (λ (log : Log). HasColumns log.table) (sym c.dropped.ensures) c.in-Ok.ensures.columns

pub returns-in-Ok-clause-bare : goal.returns-in-Ok-clause-bare
returns-in-Ok-clause-bare g c =
    ap (λ (log : Log). log.domains) c.dropped.ensures ∙ c.in-Ok.ensures.bare
