-- One more choice.
use Rattle.rx_wider.specs.Reached.{IsNode}
use Rattle.rx_wider.proofs.Choosing.{node_added}
use Rattle.rx_wider.proofs.PlanLaws.{led_to}
use Rattle.rx_wider.proofs.choices.add_choice.Goals as goal

pub returns-in_ok-push-in-Some-clause-nodes : goal.returns-in_ok-push-in-Some-clause-nodes
returns-in_ok-push-in-Some-clause-nodes g c = λ goal is all.
    let s = c.args.setting.now in
    node_added (IsNode s.kind s.rules.now goal) c.args.found.now c.push.new.self
    c.args.candidate.now.number c.in-Some.next
    (led_to c.in_ok-next.field-0 c.in-Some.next (IsNode s.kind s.rules.now goal) c.in-Some.is
    (c.in_ok-next.ensures.nodes goal is)) c.in_ok-push-in-Some.ensures.ok all
