-- A closed node of the wider search is a proof, and its log has the moves of its steps.
use Rattle.std.proofs.Common.{◌∙◌, List, Option, Some, map, ap, subst, sym}
use Rattle.std.specs.Prelude.{IfSome, option_map}
use Rattle.rx_inference.specs.declared.step.Step.{Step}
use Rattle.rx_moves.specs.Moves.{move_of}
use Rattle.rx_wider.specs.Calls.{moves_of}
use Rattle.rx_wider.specs.Reached.{IsClosedNode}
use Rattle.rx_wider.specs.declared.node.Node.{Node}
use Rattle.rx_cli.proofs.Searching.{closed_proved}
use Rattle.rx_cli.proofs.proving.wider_log.Goals as goal

pub log_of-requires-clause-proved : goal.log_of-requires-clause-proved
log_of-requires-clause-proved g c =
    let s = c.args.space.now in (
      c.args.goal.now,
      closed_proved s.kind s.rules.now c.args.goal.now c.in-Some.node
          c.as_slice-steps.result.now c.hypotheses-hypotheses.result.now
          (subst (λ (o : Option Node).
          IfSome o (IsClosedNode s.kind s.rules.now c.args.goal.now)) c.in-Some.is
          c.in_ok-found.ensures.closed)
          c.as_slice-steps.ensures c.hypotheses-hypotheses.ensures,
    )

pub returns-in_ok-log-in-Some-clause-found : goal.returns-in_ok-log-in-Some-clause-found
returns-in_ok-log-in-Some-clause-found g c =
    ap (λ (xs : List Step). Some (map move_of xs))
    (c.in_ok-log-in-Some.ensures.steps ∙ c.as_slice-steps.ensures)
    ∙ sym (ap (option_map moves_of) c.in-Some.is) ∙ c.in_ok-found.ensures.found

pub returns-in_ok-log-in-Some-clause-accepted : goal.returns-in_ok-log-in-Some-clause-accepted
returns-in_ok-log-in-Some-clause-accepted g c =
    let s = c.args.space.now in
    c.in_ok-log-in-Some.ensures.accepted c.args.goal.now
    (closed_proved s.kind s.rules.now c.args.goal.now c.in-Some.node
    c.as_slice-steps.result.now c.hypotheses-hypotheses.result.now
    (subst (λ (o : Option Node).
    IfSome o (IsClosedNode s.kind s.rules.now c.args.goal.now)) c.in-Some.is
    c.in_ok-found.ensures.closed)
    c.as_slice-steps.ensures c.hypotheses-hypotheses.ensures)
